-- Document 01, "The script": "The run checks the table once, then writes one answer word per command and goes on after a refused one."
use Rattle.std.specs.Prelude.{ℕ, ◌/◌, cond, ◌≡◌, List, eqb, length}
use Rattle.table.specs.Table.{Table, shaped}
use Rattle.checker.specs.Order.{verdict_of}
use Rattle.edit_keeps.specs.Keeps.{Kept}
use Rattle.script_command.specs.Checks.{fits}
use Rattle.script.specs.Commands.{Progress, progress, commands}

-- what a run leaves and answers
pub record Whole : Type 0 where
  pub answer : ℕ
  pub rule : ℕ
  pub slot : ℕ
  pub progress : Progress

abbrev pub whole : ℕ → ℕ → ℕ → Progress → Whole
whole a r s p = record { answer = a; rule = r; slot = s; progress = p }

-- "Run: 1, 8, 7." "Unused answer words keep their contents."
unfoldable pub run : Table → List ℕ → List ℕ → Whole
run t s answers =
    cond (shaped t)
    (cond (fits (length s) (length answers))
    (cond (eqb (verdict_of t).answer 0)
    (whole 0 0 0 (commands s (length s / 5) 0 answers t))
    (whole (verdict_of t).answer (verdict_of t).rule (verdict_of t).slot (progress answers t)))
    (whole 8 0 0 (progress answers t)))
    (whole 1 0 0 (progress answers t))

-- the contract of a run: what it leaves and answers is the definition's, and demand 3: the table is well-formed and V−E+F is what it was
pub record RunOutcome (s answers : List ℕ) (t : Table) (a r slot : ℕ) (answers' : List ℕ) (u : Table) : Type 0 where
  pub settled : whole a r slot (progress answers' u) ≡ run t s answers
  pub kept : a ≡ 0 → Kept t u
