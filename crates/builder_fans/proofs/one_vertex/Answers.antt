use mathlib.Core.Path.{ap, ◌∙◌}
use lib.ListN.{get_or}
use Rattle.table.specs.Parts.{lent}
use Rattle.table.specs.Table.{Table}
use Rattle.builder_fans.proofs.Passes.{vertex_ends}
use Rattle.builder_fans.proofs.one_vertex.Goals as goal

pub returns-clause-ended : goal.returns-clause-ended
returns-clause-ended c =
    vertex_ends c.args.room (lent c.args.t.now) c.args.v.0 _ (c.at-first.ensures ∙ ap (λ (t : Table). get_or t.vertex_mark c.args.v.0 0) c.seen.ensures) _ _
    c.take_chain.ensures.ended
