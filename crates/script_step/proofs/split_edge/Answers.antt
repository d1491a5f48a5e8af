use Rattle.script_answers.specs.Answers.{answer}
use Rattle.script_step.specs.Step.{effect}
use Rattle.script_step.proofs.Arms.{edge_below, edge_near, done, refused}
use Rattle.script_command.specs.declared.Edit.TheVariants.{SplitEdge}
use Rattle.script_step.proofs.split_edge.Goals as goal

pub returns-in_err-split_edge_answer-clause-stepped : goal.returns-in_err-split_edge_answer-clause-stepped
unfolding answer
returns-in_err-split_edge_answer-clause-stepped c =
    let a = c.args in
    refused _ (SplitEdge a.c a.p) _ c.seen.ensures _ _ c.from_residual.ensures c.in_err-split_edge_answer.ensures

pub split_edge-requires-clause-edge : goal.split_edge-requires-clause-edge
split_edge-requires-clause-edge c = edge_below _ _ c.requires _ c.seen.ensures _ c.in_ok-split_edge_answer.ensures

pub split_edge-requires-clause-edge_there : goal.split_edge-requires-clause-edge_there
split_edge-requires-clause-edge_there c = edge_near _ _ c.requires _ c.seen.ensures _ c.in_ok-split_edge_answer.ensures

pub returns-clause-stepped : goal.returns-clause-stepped
unfolding answer effect
returns-clause-stepped c =
    let a = c.args in
    done _ (SplitEdge a.c a.p) _ c.seen.ensures _ c.in_ok-split_edge_answer.ensures c.split_edge.ensures.table
