use mathlib.Core.Path.{ap, sym, ◌∙◌}
use Prim.Native.Nat.{◌-◌, ◌+◌}
use native.Mathlib.Omega.{arith}
use Rattle.builder_fans.specs.Chains.{with_vertex_mark, isolate_of}
use Rattle.table.specs.Parts.{lent}
use Rattle.builder_build.specs.Build.{isolated}
use Rattle.builder_fans.proofs.Passes.{isolated_zero, isolated_suc}
use Rattle.builder_fans.proofs.Runs.{run_next, run_end}
use Rattle.builder_fans.proofs.isolate.Goals as goal

pub loop-v-preserved : goal.loop-v-preserved
loop-v-preserved c = let a = c.args.t.now in let k = c.loop-v in (c.isolate_one.auto.vm ∙ k.invariant.0, omega arith, ap (isolated a.vc.now (a.vertices - (k.v + 1)) (k.v + 1)) c.isolate_one.ensures ∙ sym (run_next (isolate_of a.vc.now) (isolated a.vc.now) (isolated_zero a.vc.now) (isolated_suc a.vc.now) a.vertices k.v k.vm c.loop-v-test.true) ∙ k.invariant.2)

pub returns-clause-isolated : goal.returns-clause-isolated
returns-clause-isolated c = let a = c.args.t.now in let k = c.loop-v in ap (with_vertex_mark (lent a)) (sym (run_end (isolate_of a.vc.now) (isolated a.vc.now) (isolated_zero a.vc.now) (isolated_suc a.vc.now) a.vertices k.v k.vm c.loop-v-test.false) ∙ k.invariant.2)
