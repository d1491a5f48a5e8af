use Prim.Native.Nat.{◌-◌, ◌+◌}
use mathlib.Core.Bool.{true}
use mathlib.Core.Path.{◌≡◌}
use native.Mathlib.Omega.{arith}
use Rattle.ring.proofs.Steps.{stands, side_out}
use Rattle.edge_collapse.proofs.Walks.{left_border, left_closed, left_more, gathering_start, gathering_more, gathering_border, gathering_list}
use Rattle.edge_collapse.proofs.gather.Goals as goal

pub loop-step-init : goal.loop-step-init
loop-step-init c =
    let a = c.args in
    let z : a.t.now.corners - 0 ≡ a.t.now.corners = omega arith in
    rw z (gathering_start _ _ _ _ _ _ _ _ c.next_index-via.ensures c.previous_index-first.ensures c.at.ensures c.of-near.ensures)

pub returns-in_default : goal.returns-in_default
returns-in_default c =
    let a = c.args in
    let k = c.loop-step in
    gathering_border _ _ _ _ _ _ _ _ k.invariant
    (left_border a.t.now.co.now a.c0.0 k.via _ _ c.at-in-loop-step.ensures c.previous_index-first.ensures (a.t.now.corners - k._step)
    (omega (arith, c.loop-step-test.true)) c.in_default.ensures.told)

pub returns-then-o-first : goal.returns-then-o-first
returns-then-o-first c =
    let a = c.args in
    let k = c.loop-step in
    let h = left_closed a.t.now.co.now a.c0.0 k.via _ _ c.at-in-loop-step.ensures c.previous_index-first.ensures
    (a.t.now.corners - k._step) (omega (arith, c.loop-step-test.true)) _ c.in-Some.ensures.told c.in-Some.ensures.there c.if-o-first.true in
    (gathering_border _ _ _ _ _ _ _ _ k.invariant h, gathering_list _ _ _ _ _ _ _ _ k.invariant h)

pub loop-step-preserved : goal.loop-step-preserved
loop-step-preserved c =
    let a = c.args in
    let k = c.loop-step in
    let z : a.t.now.corners - (k._step + 1) ≡ a.t.now.corners - k._step - 1 = omega arith in
    rw z (gathering_more _ _ _ _ _ _ _ _ _ _ _ k.invariant
    (left_more a.t.now.co.now a.c0.0 k.via _ _ c.at-in-loop-step.ensures c.previous_index-first.ensures
    (a.t.now.corners - k._step) (omega (arith, c.loop-step-test.true)) _ c.in-Some.ensures.told c.in-Some.ensures.there c.if-o-first.false _ c.previous_index-via.ensures)
    c.at-in-loop-step-2.ensures c.push.ensures)

pub returns-after-loop-step : goal.returns-after-loop-step
returns-after-loop-step c =
    let a = c.args in
    let k = c.loop-step in
    let h = side_out true a.t.now.co.now a.c0.0 (stands true k.via) (a.t.now.corners - k._step) (omega (arith, c.loop-step-test.false)) in
    (gathering_border _ _ _ _ _ _ _ _ k.invariant h, gathering_list _ _ _ _ _ _ _ _ k.invariant h)
