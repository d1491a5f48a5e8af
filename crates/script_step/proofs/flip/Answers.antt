use Rattle.script_answers.specs.Answers.{answer}
use Rattle.script_step.specs.Step.{effect}
use Rattle.script_step.proofs.Arms.{flip_inner, flip_vertices_there, done, refused}
use Rattle.script_command.specs.declared.Edit.TheVariants.{Flip}
use Rattle.script_step.proofs.flip.Goals as goal

pub returns-in_err-flip_answer-clause-stepped : goal.returns-in_err-flip_answer-clause-stepped
unfolding answer
returns-in_err-flip_answer-clause-stepped c =
    let a = c.args in
    refused _ (Flip a.c) _ c.seen.ensures _ _ c.from_residual.ensures c.in_err-flip_answer.ensures

pub flip_edge-requires-clause-edge : goal.flip_edge-requires-clause-edge
flip_edge-requires-clause-edge c = flip_inner _ _ c.requires _ c.seen.ensures c.in_ok-flip_answer.ensures

pub flip_edge-requires-clause-vertices : goal.flip_edge-requires-clause-vertices
flip_edge-requires-clause-vertices c = flip_vertices_there _ _ c.requires _ c.seen.ensures c.in_ok-flip_answer.ensures

pub returns-clause-stepped : goal.returns-clause-stepped
unfolding answer effect
returns-clause-stepped c =
    let a = c.args in
    done _ (Flip a.c) _ c.seen.ensures _ c.in_ok-flip_answer.ensures c.flip_edge.ensures.table
