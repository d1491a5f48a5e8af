use mathlib.Core.Path.{◌∙◌}
use Rattle.table.proofs.Stored.{three_stored}
use mathlib.Core.Path.{◌≡◌, ap}
use Rattle.std.proofs.Common.{rules, Err}
use Rattle.refusal.specs.Refusal.{answer_of, number_of}
use Rattle.builder_faces.proofs.Adding.{refused_some, face_wrong, face_passed, face_skips, face_full, face_grows}
use Rattle.builder_faces.proofs.add_face.Goals as goal

pub returns-in_err-refusal : goal.returns-in_err-refusal
returns-in_err-refusal c =
    let a = c.args in
    let e : c.from_residual.result ≡ Err c.in_err-refusal.field-0.0 = search rules in
    rw e (face_wrong a.count a.t.a.0 a.t.b.0 a.t.c.0 (number_of c.in_err-refusal.field-0.0) _ _ c.known.ensures c.repeated.ensures c.in_err-refusal.ensures _ _ (refused_some c.in_err-refusal.field-0.0))

pub returns-then-taken : goal.returns-then-taken
returns-then-taken c =
    let a = c.args in
    let w = face_passed a.count a.t.a.0 a.t.b.0 a.t.c.0 _ _ _ c.known.ensures c.repeated.ensures c.refusal.ensures (ap answer_of c.in_ok-refusal.was) in
    face_skips _ _ _ _ _ _ _ _ _ _ _ c.find_edges-f.ensures _ c.taken.ensures w.0 w.1 c.if-taken.true

pub returns-then-room-n : goal.returns-then-room-n
returns-then-room-n c =
    let a = c.args in
    let w = face_passed a.count a.t.a.0 a.t.b.0 a.t.c.0 _ _ _ c.known.ensures c.repeated.ensures c.refusal.ensures (ap answer_of c.in_ok-refusal.was) in
    face_full _ _ _ _ _ _ _ _ _ _ _ c.find_edges-f.ensures _ c.taken.ensures w.0 w.1 c.if-taken.false c.if-room-n.true

pub returns : goal.returns
returns c =
    let a = c.args in
    let w = face_passed a.count a.t.a.0 a.t.b.0 a.t.c.0 _ _ _ c.known.ensures c.repeated.ensures c.refusal.ensures (ap answer_of c.in_ok-refusal.was) in
    face_grows _ _ _ _ _ _ _ _ _ _ _ c.find_edges-f.ensures _ c.taken.ensures w.0 w.1 c.if-taken.false c.if-room-n.false _ _ _ (c.put_new.ensures ∙ three_stored a.cv.now a.k.corners a.t.a.0 a.t.b.0 a.t.c.0) c.set_opposites.ensures c.set_corners.ensures
