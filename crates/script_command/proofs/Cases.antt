-- A kind that is none of the four. Assumes nothing.
use mathlib.Core.Path.{◌≡◌}
use Prim.Native.Nat.{ℕ}
use borrow.Author.Tests.{ne_eqb}
use Rattle.vertex.specs.declared.Point.{Point}
use Rattle.script_command.specs.declared.Edit.TheVariants.{Unknown}
use Rattle.script_command.specs.Decode.{decoded}

pub unknown : (k t : ℕ) (p : Point) → (k ≡ 1 → ⊥) → (k ≡ 2 → ⊥) → (k ≡ 3 → ⊥) → (k ≡ 4 → ⊥) → Unknown ≡ decoded k t p
unfolding decoded
unknown k t p a b c d = rw (ne_eqb k 1 a, ne_eqb k 2 b, ne_eqb k 3 c, ne_eqb k 4 d)
