use Rattle.script_step.proofs.Arms.{unknown}
use Rattle.script_step.proofs.step.Goals as goal

pub returns-in-Unknown-clause-stepped : goal.returns-in-Unknown-clause-stepped
returns-in-Unknown-clause-stepped c = unknown _ _ c.in-Unknown.is

pub flip-requires : goal.flip-requires
flip-requires c = record { vm = c.args.t.now.vm.now; vp = c.args.t.now.vp.now; good = c.requires }
