use Prim.Native.Nat.{◌+◌}
use Rattle.table.specs.Parts.{seen}
use Rattle.checker_kinds.specs.Kinds.{tests}
use Rattle.checker.specs.Order.{clean}
use Rattle.checker.proofs.First.{Passed}
use Rattle.checker.proofs.ruled.Given as goal

abbrev pub invariant-loop-test : goal.invariant-loop-test
invariant-loop-test l = Passed (clean (seen l.t)) tests (l.settled + l.test-index)
