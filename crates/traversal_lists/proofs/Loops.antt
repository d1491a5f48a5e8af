-- What a loop that writes along one side of a walk keeps. Assumes nothing.
use Prim.Native.Nat.{ℕ, zero, suc, ◌+◌, ◌-◌, ◌<◌, ◌≤◌}
use mathlib.Core.Path.{◌≡◌, refl, ap, ◌∙◌}
use mathlib.Core.List.{List, [], ◌++◌, map, append-nil}
use mathlib.Core.Bool.{Bool, not}
use native.Mathlib.Omega.{arith}
use native.Mathlib.Nat.{zero-add}
use native.Mathlib.Numerals.{add-one}
use lib.ListN.{length, set, length-set, length-map, drop, drop_of_length-le}
use lib.Seq.{sets, sets-eq}
use Rattle.corner.specs.Corner.{turn}
use Rattle.table.specs.Slots.{opposite_at}
use Rattle.traversal_lists.specs.Reached.{reached, Inside}

-- writing to l₀ from `first` on, from the crossing to o₀: l has the entries up to i, and the next crossing is to o. Whatever their number n,
-- those that are left make of l what all make of l₀
pub record Written (f : ℕ → ℕ) (left : Bool) (opp l₀ l : List ℕ) (first o₀ i o : ℕ) : Type 0 where
  pub size : length l ≡ length l₀
  pub list : (n : ℕ) → i ≤ first + n → sets l i (map f (reached left opp (first + n - i) o)) ≡ sets l₀ first (map f (reached left opp n o₀))

module _ (f : ℕ → ℕ) (left : Bool) (opp l₀ : List ℕ) (first o₀ : ℕ) where
  pub written_start : Written f left opp l₀ l₀ first o₀ first o₀
  written_start = record { size = refl; list = λ n h. let all : first + n - first ≡ n = omega arith in rw all }

  module _ (l : List ℕ) (i o : ℕ) (k : Written f left opp l₀ l first o₀ i o) where
    pub written_stop : (n : ℕ) → first + n ≡ i → l ≡ sets l₀ first (map f (reached left opp n o₀))
    unfolding reached
    written_stop n h =
        let none : first + n - i ≡ 0 = omega arith in
        let all : sets l i (map f (reached left opp 0 o)) ≡ sets l₀ first (map f (reached left opp n o₀)) = rw none at (k.list n (omega arith)) in
        all

    pub written_more : (v : ℕ) → v ≡ f (turn left o) → (l' : List ℕ) → l' ≡ set l i v
        → (via : ℕ) → via ≡ turn (not left) o → (o' : ℕ) → o' ≡ opposite_at opp via → Written f left opp l₀ l' first o₀ (i + 1) o'
    unfolding reached
    written_more v at-v l' at-l via at-via o' at-o =
        let there : o' ≡ opposite_at opp (turn (not left) o) = at-o ∙ ap (opposite_at opp) at-via in
        record {
          size = ap length at-l ∙ length-set l i v ∙ k.size;
          list = λ n h.
              let one : first + n - i ≡ suc (first + n - (i + 1)) = omega arith in
              let before : sets l i (map f (reached left opp (suc (first + n - (i + 1))) o)) ≡ sets l₀ first (map f (reached left opp n o₀)) =
              rw one at (k.list n (omega arith)) in
              rw (at-l, at-v, there, add-one) (rw add-one at before);
        }

-- the same for n entries that have been counted
pub record Writing (f : ℕ → ℕ) (left : Bool) (opp : List ℕ) (room : ℕ) (l₀ l : List ℕ) (first n o₀ i o : ℕ) : Type 0 where
  pub done : Written f left opp l₀ l first o₀ i o
  pub place : i ≤ first + n
  pub inside : Inside left opp room (first + n - i) o

module _ (f : ℕ → ℕ) (left : Bool) (opp : List ℕ) (room : ℕ) (l₀ : List ℕ) (first n o₀ : ℕ) where
  pub writing_start : Inside left opp room n o₀ → Writing f left opp room l₀ l₀ first n o₀ first o₀
  writing_start h =
      let all : first + n - first ≡ n = omega arith in
      record { done = written_start f left opp l₀ first o₀; place = omega arith; inside = rw all h }

  module _ (l : List ℕ) (i o : ℕ) (k : Writing f left opp room l₀ l first n o₀ i o) where
    pub writing_stop : first + n ≤ i → l ≡ sets l₀ first (map f (reached left opp n o₀))
    writing_stop h = written_stop f left opp l₀ first o₀ l i o k.done n (omega (arith, k.place))

    module _ (more : i < first + n) where
      ahead : Inside left opp room (suc (first + n - (i + 1))) o
      ahead = let one : first + n - i ≡ suc (first + n - (i + 1)) = omega arith in rw one at k.inside

      pub writing_here : o < room
      unfolding Inside
      writing_here = ahead.0

      pub writing_via : turn (not left) o < length opp
      unfolding Inside
      writing_via = ahead.1

      pub writing_more : (v : ℕ) → v ≡ f (turn left o) → (l' : List ℕ) → l' ≡ set l i v
          → (via : ℕ) → via ≡ turn (not left) o → (o' : ℕ) → o' ≡ opposite_at opp via → Writing f left opp room l₀ l' first n o₀ (i + 1) o'
      unfolding Inside
      writing_more v at-v l' at-l via at-via o' at-o =
          let there : o' ≡ opposite_at opp (turn (not left) o) = at-o ∙ ap (opposite_at opp) at-via in
          record {
            done = written_more f left opp l₀ first o₀ l i o k.done v at-v l' at-l via at-via o' at-o;
            place = omega arith;
            inside = rw there ahead.2;
          }

-- ---- a list that is written full

pub reached_size : (left : Bool) (opp : List ℕ) (n o : ℕ) → length (reached left opp n o) ≡ n
unfolding reached
reached_size left opp zero o = refl
reached_size left opp (suc n) o = ap suc (reached_size left opp n _)

-- what is written from the front on
pub sets_front : (l es : List ℕ) → length es ≤ length l → sets l 0 es ≡ es ++ drop (length es) l
sets_front l es h = sets-eq es l 0 (rw zero-add h) ∙ rw zero-add

pub writing_full : (f : ℕ → ℕ) (left : Bool) (opp : List ℕ) (room : ℕ) (l₀ : List ℕ) (o₀ : ℕ) (l : List ℕ) (i o : ℕ)
    → Writing f left opp room l₀ l 0 (length l₀) o₀ i o → length l₀ ≤ i → l ≡ map f (reached left opp (length l₀) o₀)
writing_full f left opp room l₀ o₀ l i o k h =
    let es : List ℕ = map f (reached left opp (length l₀) o₀) in
    let size : length es ≡ length l₀ = length-map (reached left opp (length l₀) o₀) f ∙ reached_size left opp (length l₀) o₀ in
    let rest : drop (length es) l₀ ≡ [] = drop_of_length-le l₀ (omega arith) in
    writing_stop f left opp room l₀ 0 (length l₀) o₀ l i o k (omega arith) ∙ sets_front l₀ es (omega arith)
    ∙ ap (λ (x : List ℕ). es ++ x) rest ∙ append-nil es
