-- What the checker finds, as a verdict and as the refusal of a call.
use Rattle.std.specs.Prelude.{Result, Ok, Err}
use Rattle.refusal.specs.declared.Refusal.{Refusal}
use Rattle.refusal.specs.declared.Refusal.TheVariants as Refusals
use Rattle.checker.specs.Verdict.{Verdict}
use Rattle.checker.specs.Order.{passed, disagree, broken}
use Rattle.checker.specs.declared.Fault.{Fault}
use Rattle.checker.specs.declared.Fault.TheVariants.{Parts, Broken}

abbrev pub told : Result (Unit {0}) Fault → Verdict
told (Ok _) = passed
told (Err Parts) = disagree
told (Err (Broken rule slot)) = broken rule slot

abbrev pub refusal_of : Fault → Refusal
refusal_of Parts = Refusals.Parts
refusal_of (Broken rule slot) = Refusals.NotWellFormed
