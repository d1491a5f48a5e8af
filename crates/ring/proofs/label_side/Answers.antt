use Prim.Native.Nat.{◌-◌, ◌+◌}
use mathlib.Core.Path.{◌≡◌}
use Rattle.ring.proofs.Labels.{labelling_start, labelling_stop, labelling_more}
use Rattle.ring.proofs.Steps.{stands, stands_first, side_border, side_closed, side_more, side_out}
use Rattle.ring.specs.Ring.{sweep}
use native.Mathlib.Omega.{arith}
use mathlib.Core.Path.{ap, sym, ◌∙◌}
use Rattle.ring.proofs.label_side.Goals as goal

pub loop-step-init : goal.loop-step-init
loop-step-init c =
    let a = c.args in
    let z : a.room - 0 ≡ a.room = omega arith in
    rw z (labelling_start _ _ _ _ (ap (sweep a.left a.co.now a.c0.0 a.room) (stands_first a.left a.c0.0 _ c.turn_index-via.ensures)))

pub returns-in_default : goal.returns-in_default
returns-in_default c =
    let a = c.args in
    let k = c.loop-step in
    labelling_stop _ _ _ _ _ _ k.invariant
    (side_border a.left a.co.now a.c0.0 k.via _ c.at.ensures (a.room - k._step) (omega (arith, c.loop-step-test.true)) (sym c.in_default.ensures.told))

pub returns-then-d-index : goal.returns-then-d-index
returns-then-d-index c =
    let a = c.args in
    let k = c.loop-step in
    labelling_stop _ _ _ _ _ _ k.invariant
    (side_closed a.left a.co.now a.c0.0 k.via _ (c.in-Some.ensures.told ∙ c.at.ensures) c.in-Some.ensures.there _ c.turn_index-d.ensures (a.room - k._step)
    (omega (arith, c.loop-step-test.true)) (c.if-d-index.true ∙ c.index.ensures))

pub loop-step-preserved : goal.loop-step-preserved
loop-step-preserved c =
    let a = c.args in
    let k = c.loop-step in
    let z : a.room - (k._step + 1) ≡ a.room - k._step - 1 = omega arith in
    rw z (labelling_more _ _ _ _ _ k.l _ _ k.invariant
    (side_more a.left a.co.now a.c0.0 k.via _ (c.in-Some.ensures.told ∙ c.at.ensures) c.in-Some.ensures.there _ c.turn_index-d.ensures (a.room - k._step)
    (omega (arith, c.loop-step-test.true)) (λ e. c.if-d-index.false (e ∙ sym c.index.ensures)) _ c.turn_index-via-in-loop-step.ensures)
    c.put.ensures)

pub returns : goal.returns
returns c =
    let a = c.args in
    let k = c.loop-step in
    labelling_stop _ _ _ _ _ _ k.invariant (side_out a.left a.co.now a.c0.0 (stands a.left k.via) (a.room - k._step) (omega (arith, c.loop-step-test.false)))
