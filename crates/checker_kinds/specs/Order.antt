-- The order in which the tests are made, of the code's table.
use Rattle.std.specs.Prelude.{ℕ, ◌≡◌, get_or}
use Rattle.checker_kinds.specs.Kinds.{test_at}
use Rattle.checker_kinds.specs.declared.TheConstants.Test.{ALL}
use Rattle.checker_kinds.specs.declared.Test.TheVariants.{Finite}

-- it holds each test in its place; past its end the last one goes on, as in the definition
abbrev pub InOrder : Type 0
InOrder = (k : ℕ) → get_or ALL k Finite ≡ test_at k
