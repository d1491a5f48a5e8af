-- Document 01, "The script": "writes one answer word per command and goes on after a refused one."
use Rattle.std.specs.Prelude.{ℕ, zero, suc, ◌+◌, ◌≡◌, List, set}
use Rattle.table.specs.Table.{Table}
use Rattle.edit_keeps.specs.Keeps.{Kept}
use Rattle.script_command.specs.Decode.{command_at}
use Rattle.script_answers.specs.Answers.{answer}
use Rattle.script_step.specs.Step.{step}

-- the answer words and the table, as they are after so many commands
pub record Progress : Type 0 where
  pub answers : List ℕ
  pub table : Table

abbrev pub progress : List ℕ → Table → Progress
progress answers t = record { answers = answers; table = t }

-- n commands from i on: each outcome is the definition applied to the table before it
unfoldable pub commands : List ℕ → (n i : ℕ) → List ℕ → Table → Progress
commands s zero i answers t = progress answers t
commands s (suc n) i answers t = commands s n (i + 1) (set answers i (answer t (command_at s i))) (step t (command_at s i))

-- what n commands leave, from a well-formed table: the outcome of the definition, with everything kept that an edit keeps
pub record Completed (s : List ℕ) (n : ℕ) (answers answers' : List ℕ) (t u : Table) : Type 0 where
  pub outcome : progress answers' u ≡ commands s n 0 answers t
  pub kept : Kept t u
