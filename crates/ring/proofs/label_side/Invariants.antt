use Prim.Native.Nat.{◌-◌}
use Rattle.ring.proofs.Labels.{Labelling}
use Rattle.ring.proofs.Steps.{stands}
use Rattle.ring.specs.Ring.{sweep}
use Rattle.ring.proofs.label_side.Given as goal

abbrev pub invariant-loop-step : goal.invariant-loop-step
invariant-loop-step l =
    Labelling (sweep l.left l.co l.c0.0 l.room l.c0.0) (sweep l.left l.co l.c0.0 (l.room - l._step) (stands l.left l.via)) l.v l.initial.l l.l
