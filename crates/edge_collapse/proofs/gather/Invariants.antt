use Prim.Native.Nat.{◌-◌}
use Rattle.edge_collapse.specs.Judged.{listed}
use Rattle.edge_collapse.proofs.Walks.{Gathering}
use Rattle.edge_collapse.proofs.gather.Given as goal

abbrev pub invariant-loop-step : goal.invariant-loop-step
invariant-loop-step l = Gathering l.t.cv.now l.t.co.now l.t.corners l.fn.c0.0 (l.t.corners - l._step) l.via (listed l.near)
