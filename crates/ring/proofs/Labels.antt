-- The loop that stores a value along one side, and the two sides together. Assumes nothing.
use mathlib.Core.Path.{◌≡◌, refl, ap, sym, ◌∙◌}
use mathlib.Core.Bool.{Bool, true, false}
use mathlib.Core.List.{List, [], ◌∷◌, ◌++◌}
use Prim.Native.Nat.{ℕ}
use lib.ListN.{length, set, length-set}
use Rattle.table.specs.Slots.{relabel}
use Rattle.ring.specs.Ring.{Sweep, stop, more, sweep, ring, Labelled}

-- `here` is what is left of the side `whole`
pub record Labelling (whole here : Sweep) (v : ℕ) (l₀ l : List ℕ) : Type 0 where
  pub size : length l ≡ length l₀
  pub list : relabel here.visits v l ≡ relabel whole.visits v l₀
  pub ends : here.border ≡ whole.border

pub labelling_start : (whole here : Sweep) (v : ℕ) (l : List ℕ) → here ≡ whole → Labelling whole here v l l
labelling_start whole here v l e =
    record {
      size = refl;
      list = ap (λ (s : Sweep). relabel s.visits v l) e;
      ends = ap (λ (s : Sweep). s.border) e;
    }

pub labelling_stop : (whole here : Sweep) (v : ℕ) (l₀ l : List ℕ) (b : Bool) → Labelling whole here v l₀ l → here ≡ stop b → Labelled whole v l₀ l b
labelling_stop whole here v l₀ l b k h =
    record {
      list = sym (ap (λ (s : Sweep). relabel s.visits v l) h) ∙ k.list;
      border = sym (ap (λ (s : Sweep). s.border) h) ∙ k.ends;
    }

pub labelling_more : (whole here there : Sweep) (v : ℕ) (l₀ l l' : List ℕ) (d : ℕ) → Labelling whole here v l₀ l → here ≡ more d there
    → l' ≡ set l d v → Labelling whole there v l₀ l'
labelling_more whole here there v l₀ l l' d k h e =
    record {
      size = ap length e ∙ length-set l d v ∙ k.size;
      list = ap (λ (x : List ℕ). relabel there.visits v x) e ∙ sym (ap (λ (s : Sweep). relabel s.visits v l) h) ∙ k.list;
      ends = sym (ap (λ (s : Sweep). s.border) h) ∙ k.ends;
    }

pub relabel_append : (xs ys : List ℕ) (v : ℕ) (l : List ℕ) → relabel (xs ++ ys) v l ≡ relabel ys v (relabel xs v l)
relabel_append [] ys v l = refl
relabel_append (x ∷ xs) ys v l = relabel_append xs ys v (set l x v)

module _ (co : List ℕ) (n c v : ℕ) (l l₁ l₂ : List ℕ) (b : Bool) (first : l₁ ≡ set l c v) (left : Labelled (sweep true co c n c) v l₁ l₂ b) where
  so_far : l₂ ≡ relabel (sweep true co c n c).visits v (set l c v)
  so_far = left.list ∙ ap (relabel (sweep true co c n c).visits v) first

  pub ring_closed : b ≡ false → l₂ ≡ relabel (ring co n c) v l
  unfolding ring
  ring_closed e = rw (← left.border, e) so_far

  pub ring_open : b ≡ true → (l₃ : List ℕ) (b' : Bool) → Labelled (sweep false co c n c) v l₂ l₃ b' → l₃ ≡ relabel (ring co n c) v l
  unfolding ring
  ring_open e l₃ b' r =
      rw (← left.border, e)
      (r.list
      ∙ ap (relabel (sweep false co c n c).visits v) so_far
      ∙ sym (relabel_append (sweep true co c n c).visits (sweep false co c n c).visits v (set l c v)))
