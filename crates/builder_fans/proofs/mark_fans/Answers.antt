use mathlib.Core.Path.{ap, sym, ◌∙◌}
use Prim.Native.Nat.{◌-◌, ◌+◌}
use native.Mathlib.Omega.{arith}
use Rattle.builder_fans.specs.Chains.{mark_of, marked}
use Rattle.table.specs.Table.{with_corner_mark}
use Rattle.table.specs.Parts.{lent}
use Rattle.ring.specs.Ring.{ring}
use Rattle.builder_fans.proofs.Passes.{marked_zero, marked_suc}
use Rattle.builder_fans.proofs.Runs.{run_next, run_end}
use Rattle.builder_fans.proofs.mark_fans.Goals as goal

pub loop-v-preserved : goal.loop-v-preserved
loop-v-preserved c = let a = c.args.t.now in let k = c.loop-v in let r = ring a.co.now a.corners in let l = a.vc.now in (c.mark_one.auto.cm ∙ k.invariant.0, omega arith, ap (marked r l (a.vertices - (k.v + 1)) (k.v + 1)) c.mark_one.ensures ∙ sym (run_next (mark_of r l) (marked r l) (marked_zero r l) (marked_suc r l) a.vertices k.v k.cm c.loop-v-test.true) ∙ k.invariant.2)

pub returns-clause-marked : goal.returns-clause-marked
returns-clause-marked c = let a = c.args.t.now in let k = c.loop-v in let r = ring a.co.now a.corners in let l = a.vc.now in ap (with_corner_mark (lent a)) (sym (run_end (mark_of r l) (marked r l) (marked_zero r l) (marked_suc r l) a.vertices k.v k.cm c.loop-v-test.false) ∙ k.invariant.2)
