use mathlib.Core.Path.{◌≡◌, refl, ap, ◌∙◌}
use lib.ListN.{get_or}
use Rattle.table.specs.Table.{Table}
use Prim.Native.Nat.{◌-◌, ◌+◌}
use native.Mathlib.Omega.{arith}
use Rattle.std.proofs.Common.{rules, Err}
use Rattle.table.specs.Parts.{lent}
use Rattle.builder_fans.proofs.Passes.{taking_start, taking_stop, taking_out, taking_roomy, taking_full, taking_on, framed, parts_on}
use Rattle.builder_fans.proofs.take_chain.Goals as goal

pub loop-step-init : goal.loop-step-init
loop-step-init c =
    let z : c.args.t.now.corners - 0 ≡ c.args.t.now.corners = omega arith in
    record { parts = (refl, refl, refl, refl, refl, refl); taking = rw z (taking_start c.args.room (lent c.args.t.now) _ _ c.requires.few (omega arith)) }

pub returns-then-h-lt2-clause-ended : goal.returns-then-h-lt2-clause-ended
returns-then-h-lt2-clause-ended c = taking_stop _ _ _ _ _ _ _ c.loop-step.invariant.taking c.if-h-lt2.true

pub one_corner-requires : goal.one_corner-requires
one_corner-requires c = taking_roomy _ _ _ _ _ _ _ c.loop-step.invariant.taking c.requires

pub returns-in_err-one_corner-clause-ended : goal.returns-in_err-one_corner-clause-ended
returns-in_err-one_corner-clause-ended c =
    let e : c.from_residual.result ≡ Err c.in_err-one_corner.field-0.0 = search rules in
    let d = c.in_err-one_corner.ensures.ended in
    let k = c.loop-step.invariant in
    rw e (
      d.0,
      taking_full _ _ _ _ _ _ _ k.taking (omega (arith, c.loop-step-test.true)) c.if-h-lt2.false d.1,
      framed (lent c.args.t.now) (lent c.loop-step.t) (lent c.one_corner.new.t) _ k.taking.frame d.2,
    )

pub loop-step-preserved : goal.loop-step-preserved
loop-step-preserved c =
    let k = c.loop-step in
    let z : c.args.t.now.corners - (k._step + 1) ≡ c.args.t.now.corners - k._step - 1 = omega arith in
    let w = c.one_corner.ensures in
    record {
      parts = parts_on c.args.t.now k.t c.one_corner.new.t k.invariant.parts w.parts;
      taking = rw z
          (taking_on _ _ _ _ _ _ _ k.invariant.taking (omega (arith, c.loop-step-test.true)) c.if-h-lt2.false _ w.rooms
          c.in_ok-one_corner.ensures.ended _ (c.at-h.ensures ∙ ap (λ (t : Table). get_or t.corner_mark (k.h - 2) 0) c.seen.ensures) (omega arith));
    }

pub returns-clause-ended : goal.returns-clause-ended
returns-clause-ended c = taking_out _ _ _ _ _ _ _ c.loop-step.invariant.taking (omega (arith, c.loop-step-test.false))
