use mathlib.Core.Path.{◌≡◌, ◌∙◌}
use Rattle.std.proofs.Common.{rules, Err}
use Rattle.table.specs.Parts.{lent}
use Rattle.builder_fans.proofs.Passes.{rooms_on}
use Rattle.builder.proofs.Steps.{chained_by, finish_full, finish_fits}
use Rattle.builder.proofs.finish.Goals as goal

pub returns-in_err-spread-clause-finished : goal.returns-in_err-spread-clause-finished
returns-in_err-spread-clause-finished c =
    λ points lay.
    let m = c.mark_fans.ensures in
    let k = c.thread_left.ensures in
    let e : c.from_residual.result ≡ Err c.in_err-spread.field-0.0 = search rules in
    let d = c.in_err-spread.ensures.ended in
    rw e (finish_full (lent c.args.t.now) c.args.skipped c.requires _ (chained_by _ _ _ m.marked k.threaded) (rooms_on _ _ _ m.rooms k.rooms) points lay _ d.0 d.1)

pub returns-clause-rooms : goal.returns-clause-rooms
returns-clause-rooms c =
    let i = c.isolate.ensures.rooms in
    rooms_on _ _ _ (rooms_on _ _ _ c.mark_fans.ensures.rooms c.thread_left.ensures.rooms)
    (rooms_on _ _ _ c.spread.ensures.rooms (record { cv = i.cv; co = i.co; cm = i.cm ∙ c.fill.auto.self; vc = i.vc; vm = i.vm ∙ c.fill-2.auto.self; vp = i.vp }))

pub returns-clause-finished : goal.returns-clause-finished
returns-clause-finished c =
    λ points lay.
    let m = c.mark_fans.ensures in
    let k = c.thread_left.ensures in
    finish_fits (lent c.args.t.now) c.args.skipped c.requires _ (chained_by _ _ _ m.marked k.threaded) (rooms_on _ _ _ m.rooms k.rooms) points lay _
    c.spread.ensures.rooms c.in_ok-spread.ensures.ended _ _ (c.fill.ensures.after (λ y e. e)) (c.fill-2.ensures.after (λ y e. e)) _ c.isolate.ensures.isolated
