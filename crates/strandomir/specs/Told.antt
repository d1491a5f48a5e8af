-- The structs that C gets, against the answers that the definitions speak of.
use Rattle.std.specs.Prelude.{ℕ, cond, ◌≡◌, List, Result}
use Rattle.refusal.specs.declared.Refusal.{Refusal}
use Rattle.checker.specs.Verdict.{Verdict}
use Rattle.checker.specs.declared.Fault.{Fault}
use Rattle.checker.specs.Told.{told as verdict_told}
use Rattle.traversal_lists.specs.Outcome.{RingOutcome, outcome}
use Rattle.traversal_lists.specs.declared.Ring.{Ring}
use Rattle.walker.specs.Walker.{Step, Moved as Move}
use Rattle.strandomir.specs.declared.Checked.{Checked}
use Rattle.strandomir.specs.declared.Listed.{Listed}
use Rattle.strandomir.specs.declared.Moved.{Moved}

abbrev pub verdict : Checked → Verdict
verdict r = record { answer = r.answer; rule = r.rule; slot = r.slot }

abbrev pub IsVerdict : Result Unit Fault → Checked → Type 0
IsVerdict of r = verdict r ≡ verdict_told of

abbrev pub listing : Listed → List ℕ → RingOutcome
listing r list = record { answer = r.answer; visited = r.visited; written = r.written; list = list }

abbrev pub IsListing : Result Ring Refusal → Listed → Type 0
IsListing of r = (list : List ℕ) → listing r list ≡ outcome of list

-- C has no bool: 1 where the walker moved
abbrev pub told : Step → Moved
told s = record { answer = s.answer; moved = cond s.moved 1 0 }

-- a move of the definition, as C finds it: what it answers, and the corner that it leaves
pub record MovedBy (m : Move) (r : Moved) (corner : ℕ) : Type 0 where
  pub answered : r ≡ told m.step
  pub stands : corner ≡ m.corner.0
