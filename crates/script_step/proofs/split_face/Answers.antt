use Rattle.script_answers.specs.Answers.{answer}
use Rattle.script_step.specs.Step.{effect}
use Rattle.script_step.proofs.Arms.{face_below, done, refused}
use Rattle.script_command.specs.declared.Edit.TheVariants.{SplitFace}
use Rattle.script_step.proofs.split_face.Goals as goal

pub returns-in_err-split_face_answer-clause-stepped : goal.returns-in_err-split_face_answer-clause-stepped
unfolding answer
returns-in_err-split_face_answer-clause-stepped c =
    let a = c.args in
    refused _ (SplitFace a.f a.p) _ c.seen.ensures _ _ c.from_residual.ensures c.in_err-split_face_answer.ensures

pub split_face-requires-clause-face : goal.split_face-requires-clause-face
split_face-requires-clause-face c = face_below _ _ c.requires _ c.seen.ensures _ c.in_ok-split_face_answer.ensures

pub returns-clause-stepped : goal.returns-clause-stepped
unfolding answer effect
returns-clause-stepped c =
    let a = c.args in
    done _ (SplitFace a.f a.p) _ c.seen.ensures _ c.in_ok-split_face_answer.ensures c.split_face.ensures.table
