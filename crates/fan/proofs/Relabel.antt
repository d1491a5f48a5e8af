-- One value written at each place of a list of places. Assumes nothing.
use mathlib.Core.Path.{◌≡◌, refl, ap, ◌∙◌, subst}
use mathlib.Core.List.{List, [], ◌∷◌, Memᴰ}
use Prim.Native.Nat.{ℕ, ◌<◌}
use native.Mathlib.Decide.{ℕ_discrete}
use lib.ListN.{length, get_or, set, length-set}
use lib.Seq.{get_or-set_same, get_or-set_other}
use Rattle.table.specs.Slots.{relabel}

pub length_relabel : (cs : List ℕ) (v : ℕ) (l : List ℕ) → length (relabel cs v l) ≡ length l
length_relabel [] v l = refl
length_relabel (c ∷ cs) v l = length_relabel cs v (set l c v) ∙ length-set l c v

pub relabel_out : (cs : List ℕ) (v : ℕ) (l : List ℕ) (d x : ℕ) → ¬ Memᴰ d cs → get_or (relabel cs v l) d x ≡ get_or l d x
relabel_out [] v l d x n = refl
relabel_out (c ∷ cs) v l d x n = relabel_out cs v (set l c v) d x (λ m. n (Memᴰ.tail m)) ∙ get_or-set_other l c d v x (λ e. n (Memᴰ.head e))

pub relabel_stays : (cs : List ℕ) (v : ℕ) (l : List ℕ) (d x : ℕ) → d < length l → get_or l d x ≡ v → get_or (relabel cs v l) d x ≡ v
relabel_stays [] v l d x h e = e
relabel_stays (c ∷ cs) v l d x h e = relabel_stays cs v (set l c v) d x (rw length-set h) (go (ℕ_discrete d c))
  where
    go : Dec (d ≡ c) → get_or (set l c v) d x ≡ v
    go (yes z) = ap (λ (i : ℕ). get_or (set l c v) i x) z ∙ get_or-set_same l c v x (subst (λ (i : ℕ). i < length l) z h)
    go (no z) = get_or-set_other l c d v x z ∙ e

pub relabel_in : (cs : List ℕ) (v : ℕ) (l : List ℕ) (d x : ℕ) → d < length l → Memᴰ d cs → get_or (relabel cs v l) d x ≡ v
relabel_in [] v l d x h m = elim m [ ]
relabel_in (c ∷ cs) v l d x h (Memᴰ.head e) = relabel_stays cs v (set l c v) d x (rw length-set h)
    (ap (λ (i : ℕ). get_or (set l c v) i x) e ∙ get_or-set_same l c v x (subst (λ (i : ℕ). i < length l) e h))
relabel_in (c ∷ cs) v l d x h (Memᴰ.tail m) = relabel_in cs v (set l c v) d x (rw length-set h) m
