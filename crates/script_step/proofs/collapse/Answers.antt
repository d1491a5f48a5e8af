use Rattle.script_answers.specs.Answers.{answer}
use Rattle.script_step.specs.Step.{effect}
use Rattle.script_step.proofs.Arms.{collapse_inner, done, refused}
use Rattle.script_command.specs.declared.Edit.TheVariants.{Collapse}
use Rattle.script_step.proofs.collapse.Goals as goal

pub returns-in_err-collapse_answer-clause-stepped : goal.returns-in_err-collapse_answer-clause-stepped
unfolding answer
returns-in_err-collapse_answer-clause-stepped c =
    let a = c.args in
    refused _ (Collapse a.c a.p) _ c.seen.ensures _ _ c.from_residual.ensures c.in_err-collapse_answer.ensures

pub collapse_edge-requires : goal.collapse_edge-requires
collapse_edge-requires c = collapse_inner _ _ c.requires _ c.seen.ensures _ c.in_ok-collapse_answer.ensures

pub returns-clause-stepped : goal.returns-clause-stepped
unfolding answer effect
returns-clause-stepped c =
    let a = c.args in
    done _ (Collapse a.c a.p) _ c.seen.ensures _ c.in_ok-collapse_answer.ensures c.collapse_edge.ensures.table
