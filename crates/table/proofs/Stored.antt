-- Values one after another: all of them copied at once, one more, and the slots of a new face. Assumes nothing.
use Prim.Native.Nat.{ℕ, suc, ◌+◌, ◌-◌, ◌≤◌, ◌<◌}
use mathlib.Core.Path.{◌≡◌, ap, sym, ◌∙◌}
use mathlib.Core.List.{List, [], ◌∷◌, ◌++◌}
use native.Mathlib.Omega.{arith}
use lib.ListN.{set, length, take, drop, get_or, length-set, length-drop}
use borrow.Rule.Slice.PartMut.{put_mid}
use Rattle.std.proofs.Common.{append_assoc}
use Rattle.std.proofs.lemmas.List.{take-append-drop, take_more, take_more_set, drop-set-lt, drop-drop, length-take-le}
use Rattle.table.specs.Slots.{three, stored}

-- where they all are inside, they are copied there at once
inside : (vs l : List ℕ) (n : ℕ) → n + length vs ≤ length l → stored l n vs ≡ take n l ++ (vs ++ drop (length vs) (drop n l))
inside [] l n h = sym (take-append-drop n l)
inside (v ∷ vs) l n h =
    let r : stored (set l n v) (n + 1) vs ≡ take (n + 1) (set l n v) ++ (vs ++ drop (length vs) (drop (n + 1) (set l n v))) =
    inside vs (set l n v) (n + 1) (rw (length-set l n v) (omega arith)) in
    let d : drop (suc (length vs)) (drop n l) ≡ drop (length vs) (drop (n + 1) l) =
    drop-drop (suc (length vs)) n l ∙ ap (λ (k : ℕ). drop k l) (omega arith) ∙ sym (drop-drop (length vs) (n + 1) l) in
    rw (r, take_more_set l n v (omega arith), drop-set-lt (n + 1) l n v (omega arith), d) (append_assoc (take n l) (v ∷ []) (vs ++ drop (length vs) (drop (n + 1) l)))

pub copied : (l vs : List ℕ) (n m : ℕ) {w : List ℕ} → n + m ≤ length l → length w ≡ length (take (n + m - n) (drop n l)) → w ≡ vs
    → put_mid n (n + m - n) l w ≡ stored l n vs
copied l vs n m h e p =
    let k : n + m - n ≡ m = omega arith in
    let s : length vs ≡ m = ap length (sym p) ∙ e ∙ rw k (length-take-le m (drop n l) (rw (length-drop n l) (omega arith))) in
    let g : n + length vs ≤ length l = omega arith in
    rw (k, p, ← s) (sym (inside vs l n g))

-- one more
last : (xs l : List ℕ) (n y : ℕ) → stored l n (xs ++ y ∷ []) ≡ set (stored l n xs) (n + length xs) y
last [] l n y = let e : n + 0 ≡ n = omega arith in rw e
last (x ∷ xs) l n y = let e : n + suc (length xs) ≡ n + 1 + length xs = omega arith in rw e (last xs (set l n x) (n + 1) y)

pub one_more : (vs l : List ℕ) (n k : ℕ) {l1 : List ℕ} → k < length vs → l1 ≡ stored l n (take k vs)
    → set l1 (n + k) (get_or vs k 0) ≡ stored l n (take (k + 1) vs)
one_more vs l n k h e =
    rw (e, take_more vs k 0 h) (sym (last (take k vs) l n (get_or vs k 0) ∙ ap (λ (i : ℕ). set (stored l n (take k vs)) (n + i) (get_or vs k 0)) (length-take-le k vs (omega arith))))

-- a new face
pub three_stored : (l : List ℕ) (n a b c : ℕ) → stored l n (a ∷ b ∷ c ∷ []) ≡ three l n a b c
three_stored l n a b c = let x : n + 1 + 1 ≡ n + 2 = omega arith in rw x
