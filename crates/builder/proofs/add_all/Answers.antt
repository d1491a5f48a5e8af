use mathlib.Core.Path.{◌≡◌}
use Rattle.std.proofs.Common.{rules, Err}
use Rattle.table.specs.Parts.{lent}
use Rattle.builder.proofs.Steps.{lay_fits, laid_is, begun, made_refused, made_done}
use Rattle.builder.proofs.add_all.Goals as goal

pub add_vertices-requires : goal.add_vertices-requires
add_vertices-requires c = lay_fits (lent c.args.t.now) _ c.requires

pub returns-in_err-added-clause-added : goal.returns-in_err-added-clause-added
returns-in_err-added-clause-added c =
    let e : c.from_residual.result ≡ Err c.in_err-added.field-0.0 = search rules in
    rw e (made_refused (lent c.args.t.now) _ c.requires _ _ c.in_err-added.ensures)

pub finish-requires : goal.finish-requires
finish-requires c = begun (lent c.args.t.now) _ c.requires _ _ _ _ _ _ c.in_ok-added.ensures _ c.add_vertices.auto.vp

pub returns-clause-added : goal.returns-clause-added
returns-clause-added c =
    made_done (lent c.args.t.now) _ c.requires _ _ _ _ _ _ c.in_ok-added.ensures _
    (c.finish.ensures.finished c.args.points.now (laid_is (lent c.args.t.now) _ c.requires _ c.add_vertices.ensures))
