use native.Mathlib.Omega.{arith}
use mathlib.Core.Path.{◌≡◌}
use Prim.Native.Nat.{ℕ, ◌+◌, min, ◌<◌}
use Rattle.std.proofs.lemmas.Bool.Decides.{nat_tests}
use Rattle.words.specs.Tally.{upped, bumped}
use Rattle.words.proofs.bump.Goals as goal

up : (n : ℕ) → n < 4294967296 → min (n + 1) 4294967295 ≡ upped n
up n h = grind (arith, nat_tests)

pub returns : goal.returns
unfolding bumped
returns c = let e = up _ c.at.type_inv in cc
