use Prim.Native.Nat.{ℕ, ◌-◌}
use mathlib.Core.Bool.{Bool}
use mathlib.Core.Path.{◌≡◌}
use Rattle.edge_collapse.proofs.Walks.{Walking}
use Rattle.edge_collapse.proofs.walk.Given as goal

abbrev pub invariant-loop-step : goal.invariant-loop-step
invariant-loop-step g l =
    Walking l.t.cv.now l.t.co.now l.t.corners l.fn.c0.0 (λ p. (x : ℕ) (r : Bool) → goal.F-post g l.passes x r → r ≡ p x) (l.t.corners - l._step) l.via l.passing
