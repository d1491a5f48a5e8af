-- `checker_rules::meets` meets its contract: the walks from where the loop stands, with the fuel that is left, end as the walks from c do.
use Rattle.checker_rules.proofs.Turns.{near_out, turn_left, turn_right, turn_more}
use mathlib.Core.Path.{sym, ◌∙◌}
use native.Mathlib.Omega.{arith}
use Prim.Native.Nat.{◌+◌, ◌-◌}
use Rattle.checker_rules.proofs.meets.Goals as goal

pub returns-then-hits : goal.returns-then-hits
returns-then-hits c =
    turn_left _ _ _ _ c.loop-step.a.0 c.loop-step.b.0 (omega arith) _ c.beside-a.ensures _ c.hits.ensures c.if-hits.true
    ∙ sym c.loop-step.invariant

pub returns-then-hits-2 : goal.returns-then-hits-2
returns-then-hits-2 c =
    turn_right _ _ _ _ c.loop-step.a.0 c.loop-step.b.0 (omega arith) _ c.beside-a.ensures _ c.hits.ensures
    c.if-hits.false _ c.beside-b.ensures _ c.hits-in-loop-step.ensures c.if-hits-2.true
    ∙ sym c.loop-step.invariant

pub loop-step-preserved : goal.loop-step-preserved
loop-step-preserved c =
    let z = c.args in
    c.loop-step.invariant
    ∙ turn_more z.co.now z.s.0 z.c.0 _ c.loop-step.a.0 c.loop-step.b.0 (omega arith) _ c.beside-a.ensures _ c.hits.ensures
    c.if-hits.false _ c.beside-b.ensures _ c.hits-in-loop-step.ensures (z.room - (c.loop-step._step + 1)) (omega arith) c.if-hits-2.false

pub returns : goal.returns
returns c = near_out _ _ _ (c.args.room - c.loop-step._step) _ _ (omega arith) ∙ sym c.loop-step.invariant
