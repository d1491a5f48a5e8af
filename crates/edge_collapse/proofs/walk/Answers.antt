use Prim.Native.Nat.{◌-◌, ◌+◌, ◌<◌}
use mathlib.Core.Path.{◌≡◌}
use mathlib.Core.Bool.{true, false}
use native.Mathlib.Omega.{arith}
use Rattle.ring.specs.Ring.{stop}
use Rattle.ring.proofs.Steps.{stands, side_out}
use Rattle.edge_collapse.proofs.Walks.{here, left_border, left_closed, left_more, walking_start, walking_more, walking_border, walking_sum}
use Rattle.edge_collapse.proofs.walk.Goals as goal
use Rattle.edge_collapse.proofs.walk.Goals.{else-loop-step-test, then-loop-step-test+in-Some+then-o-first}

pub loop-step-init : goal.loop-step-init
loop-step-init g c =
    let a = c.args in
    let z : a.t.now.corners - 0 ≡ a.t.now.corners = omega arith in
    rw z (walking_start _ _ _ _ _ _ _ _ _ _ c.next_index-via.ensures c.previous_index-first.ensures c.at.ensures
    (λ p t. t _ _ c.passes.ensures) c.from-passing.ensures)

pub returns-in_default-clause-border : goal.returns-in_default-clause-border
returns-in_default-clause-border g c =
    let a = c.args in
    let k = c.loop-step in
    walking_border _ _ _ _ _ _ _ _ _ k.invariant
    (left_border a.t.now.co.now a.c0.0 k.via _ _ c.at-in-loop-step.ensures c.previous_index-first.ensures (a.t.now.corners - k._step)
    (omega (arith, c.loop-step-test.true)) c.in_default.ensures.told)

pub returns-in_default-clause-passing : goal.returns-in_default-clause-passing
returns-in_default-clause-passing g c =
    let a = c.args in
    let k = c.loop-step in
    walking_sum _ _ _ _ _ _ _ _ _ k.invariant
    (left_border a.t.now.co.now a.c0.0 k.via _ _ c.at-in-loop-step.ensures c.previous_index-first.ensures (a.t.now.corners - k._step)
    (omega (arith, c.loop-step-test.true)) c.in_default.ensures.told)

pub loop-step-preserved : goal.loop-step-preserved
loop-step-preserved g c =
    let a = c.args in
    let k = c.loop-step in
    let z : a.t.now.corners - (k._step + 1) ≡ a.t.now.corners - k._step - 1 = omega arith in
    let some : 0 < a.t.now.corners - k._step = omega (arith, c.loop-step-test.true) in
    rw z (walking_more _ _ _ _ _ _ _ _ _ _ _ _ _ k.invariant some
    (left_more a.t.now.co.now a.c0.0 k.via _ _ c.at-in-loop-step.ensures c.previous_index-first.ensures
    (a.t.now.corners - k._step) some _ c.in-Some.ensures.told c.in-Some.ensures.there c.if-o-first.false _ c.previous_index-via.ensures)
    c.at-in-loop-step-2.ensures (λ p t. t _ _ c.passes-in-loop-step.ensures) c.from-passing-in-loop-step.ensures)

-- where the loop was left: the walk is closed, or has gone as far as it may
ended : (g : _) (c : goal.After-drop-passes-2 g)
    → here c.args.t.now.cv.now c.args.t.now.co.now c.args.t.now.corners c.args.c0.0 (c.args.t.now.corners - c.loop-step._step) c.loop-step.via ≡ stop false
ended g c =
    let a = c.args in
    let k = c.loop-step in
    elim c.loop-step-test.branch [
      | else-loop-step-test w ↦ side_out true a.t.now.co.now a.c0.0 (stands true k.via) (a.t.now.corners - k._step) (omega (arith, w.loop-step-test.false))
      | then-loop-step-test+in-Some+then-o-first w ↦
          left_closed a.t.now.co.now a.c0.0 k.via _ _ w.at-in-loop-step.ensures c.previous_index-first.ensures
          (a.t.now.corners - k._step) (omega (arith, w.loop-step-test.true)) _ w.in-Some.ensures.told w.in-Some.ensures.there w.if-o-first.true
    ]

pub returns-clause-border : goal.returns-clause-border
returns-clause-border g c = walking_border _ _ _ _ _ _ _ _ _ c.loop-step.invariant (ended g c)

pub returns-clause-passing : goal.returns-clause-passing
returns-clause-passing g c = walking_sum _ _ _ _ _ _ _ _ _ c.loop-step.invariant (ended g c)
