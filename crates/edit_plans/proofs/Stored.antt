-- The slots of two new faces, one after another. Assumes nothing.
use Prim.Native.Nat.{ℕ, ◌+◌}
use mathlib.Core.Path.{◌≡◌}
use mathlib.Core.List.{List, [], ◌∷◌}
use native.Mathlib.Omega.{arith}
use Rattle.table.specs.Slots.{stored}
use Rattle.edit_plans.specs.Plans.{six}

pub six_stored : (l : List ℕ) (n a b c d e f : ℕ) → stored l n (a ∷ b ∷ c ∷ d ∷ e ∷ f ∷ []) ≡ six l n a b c d e f
six_stored l n a b c d e f =
    let x : n + 1 + 1 ≡ n + 2 = omega arith in
    let y : n + 2 + 1 ≡ n + 3 = omega arith in
    let z : n + 3 + 1 + 1 ≡ n + 3 + 2 = omega arith in
    rw (x, y, z)
