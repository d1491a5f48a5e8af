use Rattle.vectors_record.proofs.Seams.{lent, seam, replayed}
use Rattle.vectors_record.proofs.replay.Goals as goal

pub returns-clause-replayed : goal.returns-clause-replayed
returns-clause-replayed c =
    let r = c.play_parts-right in
    replayed _ _ _ _ _ _ _ _ _ _ _ _ _ _ _ _ _ _ _ _ _ _ _ _ _ _ _ _ _ _ (seam _ _ _ _ c.min-a.ensures r.auto.cv)
    (seam _ _ _ _ c.min-b.ensures r.auto.co) (seam _ _ _ _ c.min-c.ensures r.auto.cm) (seam _ _ _ _ c.min-d.ensures r.auto.vc)
    (seam _ _ _ _ c.min-e.ensures r.auto.vm) (seam _ _ _ _ c.min-f.ensures r.auto.vp)
    (lent _ _ _ _ c.number_count.ensures c.min-p.ensures) (lent _ _ _ _ c.list_count.ensures c.min-q.ensures) r.ensures
