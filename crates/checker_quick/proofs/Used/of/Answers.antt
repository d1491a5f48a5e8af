-- `checker_quick::Used::of` meets its contract: the corners in use are there.
use mathlib.Core.Path.{sym, ◌∙◌}
use native.Mathlib.Omega.{arith}
use Rattle.checker_quick.proofs.Quick.{all_there}
use Rattle.checker_quick.proofs.Used.of.Goals as goal

pub invariant_of-result : goal.invariant_of-result
invariant_of-result c =
    record { there = all_there _ c.if-nc-t.true c.if-nc-t-2.true (omega arith) (sym c.counts_test.ensures ∙ c.if-counts_test.true) }
