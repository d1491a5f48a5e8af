use mathlib.Core.Path.{ap}
use native.Mathlib.Omega.{arith}
use Rattle.table.specs.Parts.{lent}
use Rattle.builder_fans.specs.Chains.{with_threads}
use Rattle.builder_fans.proofs.Passes.{threading_on, threading_end}
use Rattle.builder_fans.proofs.thread_left.Goals as goal

pub loop-c-preserved : goal.loop-c-preserved
loop-c-preserved c = let w = c.thread_one in threading_on _ _ _ _ _ _ _ _ _ c.loop-c.invariant c.loop-c-test.true w.auto.cm w.auto.vm w.ensures

pub returns-clause-threaded : goal.returns-clause-threaded
returns-clause-threaded c = ap (with_threads (lent c.args.t.now)) (threading_end _ _ _ _ _ _ _ c.loop-c.invariant (omega arith))
