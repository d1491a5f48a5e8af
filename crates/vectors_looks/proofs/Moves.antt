-- The move that a kind asks for is the one that the walker makes by that kind.
use Prim.Native.Nat.{ℕ}
use mathlib.Core.Bool.{Bool, true, false}
use mathlib.Core.Path.{◌≡◌, refl}
use Rattle.std.specs.Prelude.{cond, eqb}
use Rattle.table.specs.Table.{Table}
use Rattle.walker.specs.declared.Move.TheVariants.{Next, Previous, Opposite, SwingLeft, SwingRight}
use Rattle.walker.specs.Walker.{moved_by, to_next, to_previous, to_opposite, swung_left, swung_right}
use Rattle.vectors_looks.specs.Look.{move_kind_of, move_of}

by_tests :
    (t : Table) (c : ℕ) (p q r s : Bool) →
    moved_by (cond p Next (cond q Previous (cond r Opposite (cond s SwingLeft SwingRight)))) t c
    ≡ cond p (to_next t c) (cond q (to_previous t c) (cond r (to_opposite t c) (cond s (swung_left t c) (swung_right t c))))
by_tests t c true q r s = refl
by_tests t c false true r s = refl
by_tests t c false false true s = refl
by_tests t c false false false true = refl
by_tests t c false false false false = refl

pub same_move : (k : ℕ) (t : Table) (c : ℕ) → moved_by (move_kind_of k) t c ≡ move_of k t c
unfolding move_kind_of move_of
same_move k t c = by_tests t c (eqb k 0) (eqb k 1) (eqb k 2) (eqb k 3)
