-- What a command leaves and answers, from a well-formed table: "demand 2 applied to each command from the table before it."
use Rattle.std.specs.Prelude.{ℕ, ◌≡◌, List, Float}
use Rattle.table.specs.Table.{Table, table}
use Rattle.table.specs.Rules.{Good}
use Rattle.script_command.specs.declared.Edit.{Edit}
use Rattle.script_answers.specs.Answers.{answer}
use Rattle.script_step.specs.Step.{step}

-- a flip reads and writes four parts: those of some good table
pub record GoodFour (t : Table) : Type 0 where
  pub vm : List ℕ
  pub vp : List Float
  pub good : Good (table t.corner_vertex t.corner_opposite t.corner_mark t.vertex_corner vm vp t.vertices t.corners)

pub record Stepped (t : Table) (e : Edit) (a : ℕ) (u : Table) : Type 0 where
  pub answered : a ≡ answer t e
  pub table : u ≡ step t e
