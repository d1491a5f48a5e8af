-- `checker_quick::Used::face_fits` meets its contract: the face is deleted, or live.
use Rattle.checker_quick.proofs.Quick.{face_live_lem, face_gone}
use Rattle.checker_quick.proofs.Used.face_fits.Goals as goal

pub returns-then-mark-eq1 : goal.returns-then-mark-eq1
returns-then-mark-eq1 c =
    λ e i l h.
    face_gone _ _ c.requires.0 _ c.at_there-mark.ensures _ c.agree.ensures c.if-agree.true i l h c.if-mark-eq1.true

pub returns-then-mark-eq0 : goal.returns-then-mark-eq0
returns-then-mark-eq0 c =
    λ e i l h.
    face_live_lem _ _ c.requires.0 _ c.at_there-mark.ensures _ c.agree.ensures c.if-agree.true i l h c.if-mark-eq0.true
    (c.sides_fit.ensures e i l h)
