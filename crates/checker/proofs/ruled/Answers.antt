-- `checker::ruled` meets its contract: every test before the one at hand passes everywhere, those too that the quick pass has settled.
use Prim.Native.Nat.{◌+◌}
use native.Mathlib.Omega.{arith}
use Rattle.table.specs.Parts.{seen}
use Rattle.checker.proofs.First.{passed_more}
use Rattle.checker.proofs.Order.{settled_start, tests_from, clean_yes, ruled_bad, ruled_good}
use Rattle.checker.proofs.ruled.Goals as goal
use Rattle.checker.proofs.ruled.Goals.{then-passes, else-passes}

pub returns-in-Some : goal.returns-in-Some
returns-in-Some c =
    let k = c.if-passes.settled + c.loop-test.test-index in
    let is = tests_from c.if-passes.settled c.loop-test.test-index _ c.loop-test-test.true in
    ruled_bad (seen c.args.t.now) k _ is.0 _ c.first_of.ensures.first _ c.in-Some.is c.in-Some.ensures.within _ _ c.loop-test.invariant is.1
    c.rule.ensures c.slot.ensures

pub loop-test-init : goal.loop-test-init
loop-test-init c =
    elim c.if-passes.branch [
      | then-passes w ↦ settled_start (seen c.args.t.now) _ _ w.settled-is (omega arith) (c.passes.ensures w.if-passes.true)
      | else-passes w ↦ settled_start (seen c.args.t.now) _ _ w.settled-is (omega arith) (λ k l. absurd (omega arith))
    ]

pub loop-test-preserved : goal.loop-test-preserved
loop-test-preserved c =
    let k = c.if-passes.settled + c.loop-test.test-index in
    let is = tests_from c.if-passes.settled c.loop-test.test-index _ c.loop-test-test.true in
    passed_more _ _ k _ c.loop-test.invariant (omega arith) is.1 (clean_yes (seen c.args.t.now) k _ is.0 _ c.first_of.ensures.first c.in_default.is)

pub returns : goal.returns
returns c = ruled_good _ _ c.loop-test.invariant (omega arith)
