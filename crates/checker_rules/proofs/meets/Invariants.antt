use Prim.Native.Nat.{◌-◌}
use Rattle.checker_rules.specs.Near.{near, beside}
use mathlib.Core.Path.{◌≡◌}
use mathlib.Core.Bool.{true, false}
use Rattle.checker_rules.proofs.meets.Given as goal

abbrev pub invariant-loop-step : goal.invariant-loop-step
invariant-loop-step l =
    near l.co l.s.0 l.c.0 l.room (beside true l.co l.c.0) (beside false l.co l.c.0)
    ≡ near l.co l.s.0 l.c.0 (l.room - l._step) (beside true l.co l.a.0) (beside false l.co l.b.0)
