-- What a run is told to have answered: its number, and for 7 the rule and the slot.
use Rattle.std.specs.Prelude.{ℕ, Result, Ok, Err}
use Rattle.checker.specs.declared.Fault.TheVariants.{Parts, Broken}
use Rattle.script.specs.declared.Unrun.{Unrun}
use Rattle.script.specs.declared.Unrun.TheVariants.{Misfit, Table}

abbrev pub answer_told : Result Unit Unrun → ℕ
answer_told (Ok _) = 0
answer_told (Err Misfit) = 8
answer_told (Err (Table Parts)) = 1
answer_told (Err (Table (Broken rule slot))) = 7

abbrev pub rule_told : Result Unit Unrun → ℕ
rule_told (Ok _) = 0
rule_told (Err Misfit) = 0
rule_told (Err (Table Parts)) = 0
rule_told (Err (Table (Broken rule slot))) = rule

abbrev pub slot_told : Result Unit Unrun → ℕ
slot_told (Ok _) = 0
slot_told (Err Misfit) = 0
slot_told (Err (Table Parts)) = 0
slot_told (Err (Table (Broken rule slot))) = slot
