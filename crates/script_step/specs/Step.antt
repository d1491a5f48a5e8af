-- A command: its answer first, its effect after. A refused one changes nothing.
use Rattle.std.specs.Prelude.{cond, eqb}
use Rattle.table.specs.Table.{Table}
use Rattle.edit_collapse.specs.Collapse.{collapse_edge}
use Rattle.edit_flip.specs.Flip.{flip_edge}
use Rattle.edit_split_edge.specs.SplitEdge.{split_edge}
use Rattle.edit_split_face.specs.SplitFace.{split_face}
use Rattle.script_command.specs.declared.Edit.{Edit}
use Rattle.script_command.specs.declared.Edit.TheVariants.{Collapse, Flip, SplitEdge, SplitFace, Unknown}
use Rattle.script_answers.specs.Answers.{answer}

unfoldable pub effect : Table → Edit → Table
effect t (Collapse c p) = collapse_edge t c.0 p
effect t (Flip c) = flip_edge t c.0
effect t (SplitEdge c p) = split_edge t c.0 p
effect t (SplitFace f p) = split_face t f.0 p
effect t Unknown = t

unfoldable pub step : Table → Edit → Table
step t e = cond (eqb (answer t e) 0) (effect t e) t
