use mathlib.Core.Path.{refl, sym, ap, ◌∙◌}
use borrow.Author.Tests.{eqb-true, not-false}
use lib.ListN.{get_or}
use Rattle.refusal.specs.declared.Refusal.TheVariants.{NoVertexRoom}
use Rattle.table.proofs.Words.{eqb_not}
use Rattle.table.specs.Parts.{lent}
use Rattle.table.specs.Table.{Table}
use Rattle.builder_fans.proofs.Passes.{step_not, step_full, step_gives}
use Rattle.builder_fans.proofs.one_corner.Goals as goal

pub returns-then-ne-clause-ended : goal.returns-then-ne-clause-ended
returns-then-ne-clause-ended c =
    step_not c.args.room (lent c.args.t.now) c.args.v.0 c.args.c.0 _
    (c.vertex_of.ensures ∙ ap (λ (t : Table). get_or t.corner_vertex c.args.c.0 0) c.seen.ensures)
    c.requires.few (eqb_not _ _ (sym c.if-ne.ensures))

pub returns-then-t-room-clause-ended : goal.returns-then-t-room-clause-ended
returns-then-t-room-clause-ended c =
    step_full c.args.room (lent c.args.t.now) c.args.v.0 c.args.c.0 _
    (c.vertex_of.ensures ∙ ap (λ (t : Table). get_or t.corner_vertex c.args.c.0 0) c.seen.ensures)
    (eqb-true _ _ (not-false _ (sym c.if-ne.ensures))) c.if-t-room.true NoVertexRoom refl

pub returns-clause-ended : goal.returns-clause-ended
returns-clause-ended c =
    step_gives c.args.room (lent c.args.t.now) c.args.v.0 c.args.c.0 _
    (c.vertex_of.ensures ∙ ap (λ (t : Table). get_or t.corner_vertex c.args.c.0 0) c.seen.ensures)
    (eqb-true _ _ (not-false _ (sym c.if-ne.ensures))) c.requires.few c.if-t-room.false _ c.give.ensures.given
