-- A turn of the two walks, by what was found. Assumes nothing.
use Prim.Native.Nat.{ℕ, zero, suc, ◌-◌, ◌<◌, ◌≤◌}
use mathlib.Core.Path.{◌≡◌, refl, ap, ◌∙◌}
use mathlib.Core.List.{List}
use mathlib.Core.Bool.{Bool, true, false}
use native.Mathlib.Nat.{suc-sub-suc, sub-zero}
use native.Mathlib.Omega.{arith}
use Rattle.checker_rules.specs.Near.{near, hits, beside}

module _ (co : List ℕ) (s c : ℕ) where
  pub near_out : (room a b : ℕ) → room ≤ 0 → false ≡ near co s c room a b
  unfolding near
  near_out zero a b h = refl
  near_out (suc room) a b h = absurd (omega arith)

  module _ (room a b : ℕ) (h : 0 < room) (p : Bool) (is : p ≡ hits s c a) where
    pub near_left : p ≡ true → true ≡ near co s c room a b
    unfolding near
    near_left e = go room h
      where
        go : (room : ℕ) → 0 < room → true ≡ near co s c room a b
        go zero h = absurd (omega arith)
        go (suc room) h = rw (← is, e)

    module _ (no : p ≡ false) (q : Bool) (is' : q ≡ hits s c b) where
      pub near_right : q ≡ true → true ≡ near co s c room a b
      unfolding near
      near_right e = go room h
        where
          go : (room : ℕ) → 0 < room → true ≡ near co s c room a b
          go zero h = absurd (omega arith)
          go (suc room) h = rw (← is, no, ← is', e)

      pub near_more : (x y : ℕ) → x ≡ beside true co a → y ≡ beside false co b → q ≡ false → near co s c room a b ≡ near co s c (room - 1) x y
      unfolding near
      near_more x y e f g = go room h
        where
          go : (room : ℕ) → 0 < room → near co s c room a b ≡ near co s c (room - 1) x y
          go zero h = absurd (omega arith)
          go (suc room) h = rw (← is, no, ← is', g, ← e, ← f, suc-sub-suc, sub-zero)

  -- a turn of the two walks, each swing made only when its corner is looked at
  module _ (room a b : ℕ) (h : 0 < room) (x : ℕ) (ex : x ≡ beside true co a) (p : Bool) (is : p ≡ hits s c x) where
    left_is : p ≡ hits s c (beside true co a)
    left_is = is ∙ ap (λ (z : ℕ). hits s c z) ex

    pub turn_left : p ≡ true → true ≡ near co s c room (beside true co a) (beside false co b)
    turn_left e = near_left room (beside true co a) (beside false co b) h p left_is e

    module _ (no : p ≡ false) (y : ℕ) (ey : y ≡ beside false co b) (q : Bool) (is' : q ≡ hits s c y) where
      right_is : q ≡ hits s c (beside false co b)
      right_is = is' ∙ ap (λ (z : ℕ). hits s c z) ey

      pub turn_right : q ≡ true → true ≡ near co s c room (beside true co a) (beside false co b)
      turn_right e = near_right room (beside true co a) (beside false co b) h p left_is no q right_is e

      pub turn_more : (rest : ℕ) → room - 1 ≡ rest → q ≡ false
          → near co s c room (beside true co a) (beside false co b) ≡ near co s c rest (beside true co x) (beside false co y)
      turn_more rest e g =
          near_more room (beside true co a) (beside false co b) h p left_is no q right_is (beside true co x) (beside false co y)
          (ap (λ (z : ℕ). beside true co z) ex)
          (ap (λ (z : ℕ). beside false co z) ey)
          g
          ∙ ap (λ (k : ℕ). near co s c k (beside true co x) (beside false co y)) e
