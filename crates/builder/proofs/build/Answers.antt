use mathlib.Core.Path.{◌≡◌, sym, ap, ◌∙◌}
use Rattle.std.proofs.Common.{rules, Err}
use Rattle.refusal.specs.Refusal.{answer_of}
use Rattle.table.specs.Table.{shaped}
use Rattle.table.specs.Parts.{lent}
use Rattle.builder_faces.proofs.Adding.{refused_some}
use Rattle.builder.proofs.Steps.{build_unshaped, build_thirds, shape, blank_shape, shaped_on, build_refused, build_goes, settled, settled_blank}
use Rattle.builder.proofs.build.Goals.{then-not-is_shaped-via-then-not-is_shaped, then-not-is_shaped-via-else-not-is_shaped+then-points-ne0}
use Rattle.builder.proofs.build.Goals as goal

pub returns-then-not-is_shaped-clause-built : goal.returns-then-not-is_shaped-clause-built
returns-then-not-is_shaped-clause-built c =
    let is = c.is_shaped.ensures ∙ ap shaped c.seen.ensures in
    elim c.then-not-is_shaped.branch [
      | then-not-is_shaped-via-then-not-is_shaped w ↦ build_unshaped (lent c.args.t.now) _ _ _ is w.if-not-is_shaped.true
      | then-not-is_shaped-via-else-not-is_shaped+then-points-ne0 w ↦
          build_thirds (lent c.args.t.now) _ _ _ is w.if-not-is_shaped.false w.if-points-ne0.true
    ]

pub blank-requires : goal.blank-requires
blank-requires c = shape (lent c.args.t.now) c.args.points.now c.args.faces.now _ (c.is_shaped.ensures ∙ ap shaped c.seen.ensures) c.if-not-is_shaped.false

pub returns-in_err-points_refusal-clause-built : goal.returns-in_err-points_refusal-clause-built
returns-in_err-points_refusal-clause-built c =
    let e : c.from_residual.result ≡ Err c.in_err-points_refusal.field-0.0 = search rules in
    rw e
    (build_refused (lent c.args.t.now) _ _ _ (c.is_shaped.ensures ∙ ap shaped c.seen.ensures) c.if-not-is_shaped.false c.if-points-ne0.false _ c.blank.ensures.table
    _ c.all_finite.ensures _ c.in_err-points_refusal.ensures (refused_some c.in_err-points_refusal.field-0.0))

pub add_all-done-requires : goal.add_all-done-requires
add_all-done-requires c =
    let g = build_goes (lent c.args.t.now) c.args.points.now c.args.faces.now _ (c.is_shaped.ensures ∙ ap shaped c.seen.ensures) c.if-not-is_shaped.false c.if-points-ne0.false
    _ c.blank.ensures.table _ c.all_finite.ensures _ c.points_refusal.ensures (ap answer_of c.in_ok-points_refusal.was) in
    g.0

pub blank-requires-then-is_err : goal.blank-requires-then-is_err
blank-requires-then-is_err c =
    let is = c.is_shaped.ensures ∙ ap shaped c.seen.ensures in
    shaped_on _ _ c.add_all-done.ensures.rooms
    (blank_shape (lent c.args.t.now) c.args.points.now c.args.faces.now _ is c.if-not-is_shaped.false c.if-points-ne0.false _ c.blank.ensures.table)

pub returns-then-is_err-clause-built : goal.returns-then-is_err-clause-built
returns-then-is_err-clause-built c =
    let g = build_goes (lent c.args.t.now) c.args.points.now c.args.faces.now _ (c.is_shaped.ensures ∙ ap shaped c.seen.ensures) c.if-not-is_shaped.false c.if-points-ne0.false
    _ c.blank.ensures.table _ c.all_finite.ensures _ c.points_refusal.ensures (ap answer_of c.in_ok-points_refusal.was) in
    let d = c.add_all-done.ensures in
    settled_blank _ _ _ _ (g.1 _ d.added) (sym c.if-is_err.ensures.value) d.rooms _ c.blank-then-is_err.ensures.table

pub returns-else-is_err-clause-built : goal.returns-else-is_err-clause-built
returns-else-is_err-clause-built c =
    let g = build_goes (lent c.args.t.now) c.args.points.now c.args.faces.now _ (c.is_shaped.ensures ∙ ap shaped c.seen.ensures) c.if-not-is_shaped.false c.if-points-ne0.false
    _ c.blank.ensures.table _ c.all_finite.ensures _ c.points_refusal.ensures (ap answer_of c.in_ok-points_refusal.was) in
    settled _ (lent c.blank.new.self) _ _ (g.1 _ c.add_all-done.ensures.added) (sym c.if-is_err.ensures.value)
