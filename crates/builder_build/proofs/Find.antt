-- What the search for a directed edge finds. Assumes nothing.
use mathlib.Core.Path.{◌≡◌, refl, sym, ◌∙◌, subst}
use mathlib.Core.Bool.{Bool, true, false, cond, ◌&&◌, false≢true}
use mathlib.Core.List.{List}
use Prim.Native.Nat.{ℕ, zero, suc, ◌+◌, ◌≤◌, ◌<◌}
use native.Mathlib.Omega.{arith}
use native.Mathlib.Decide.{ℕ_discrete}
use borrow.Author.Tests.{eqb-true, eq-eqb}
use lib.Dec.{eqb}
use lib.ListN.{get_or}
use Rattle.corner.specs.Corner.{next, previous, absent}
use Rattle.builder_build.specs.Build.{edge_at, find_edge}

pub record Edge (cv : List ℕ) (x y k : ℕ) : Type 0 where
  pub tail : get_or cv (next k) 0 ≡ x
  pub head : get_or cv (previous k) 0 ≡ y

pub edge_true : (cv : List ℕ) (x y k : ℕ) → edge_at cv x y k ≡ true → Edge cv x y k
unfolding edge_at
edge_true cv x y k e = go (eqb (get_or cv (next k) 0) x) (eqb (get_or cv (previous k) 0) y) refl refl e
  where
    go : (p q : Bool) → eqb (get_or cv (next k) 0) x ≡ p → eqb (get_or cv (previous k) 0) y ≡ q → p && q ≡ true → Edge cv x y k
    go true true a b h = record { tail = eqb-true _ _ a; head = eqb-true _ _ b }
    go true false a b h = absurd (false≢true h)
    go false q a b h = absurd (false≢true h)

pub edge_false : (cv : List ℕ) (x y k : ℕ) → edge_at cv x y k ≡ false → Edge cv x y k → ⊥
unfolding edge_at
edge_false cv x y k e h = false≢true (sym e ∙ rw (eq-eqb _ _ h.tail, eq-eqb _ _ h.head))

-- the search's answer: the first corner with the edge, or absent where there is none
pub data Finding (cv : List ℕ) (x y n i r : ℕ) : Type 0 where
  none : r ≡ absent → ((k : ℕ) → i ≤ k → k < i + n → Edge cv x y k → ⊥) → Finding cv x y n i r
  some : i ≤ r → r < i + n → Edge cv x y r → Finding cv x y n i r

pub finding : (cv : List ℕ) (x y n i : ℕ) → Finding cv x y n i (find_edge cv x y n i)
unfolding find_edge
finding cv x y zero i = none refl (λ k a b e. absurd (omega arith))
finding cv x y (suc n) i = go (edge_at cv x y i) refl (finding cv x y n (suc i))
  where
    go : (t : Bool) → edge_at cv x y i ≡ t → Finding cv x y n (suc i) (find_edge cv x y n (suc i)) → Finding cv x y (suc n) i (cond t i (find_edge cv x y n (suc i)))
    go true e f = some (omega arith) (omega arith) (edge_true cv x y i e)
    go false e (none z all) = none z at
      where
        at : (k : ℕ) → i ≤ k → k < i + suc n → Edge cv x y k → ⊥
        at k a b h = pick (ℕ_discrete k i)
          where
            pick : Dec (k ≡ i) → ⊥
            pick (yes q) = edge_false cv x y i e (subst (Edge cv x y) q h)
            pick (no q) = all k (omega arith) (omega arith) h
    go false e (some a b h) = some (omega arith) (omega arith) h
