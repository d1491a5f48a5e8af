use mathlib.Core.Path.{ap, ◌∙◌}
use Rattle.table.specs.Parts.{lent}
use Rattle.table.specs.Slots.{point_at}
use Rattle.table.specs.Table.{Table}
use Rattle.builder_fans.proofs.Passes.{given}
use Rattle.builder_fans.proofs.give.Goals as goal

pub returns-clause-given : goal.returns-clause-given
returns-clause-given c =
    given (lent c.args.t.now) c.args.v.0 c.args.c.0 _ _ _ _ c.label.ensures c.set_corner.ensures
    (c.position-p.ensures ∙ ap (λ (t : Table). point_at t.vertex_point c.args.v.0) c.seen.ensures) c.set_position.ensures
