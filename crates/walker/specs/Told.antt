-- What a move hands back, as what it comes to for a walker that began at c.
use Rattle.std.specs.Prelude.{ℕ, Bool, false, Option, Some, None, Result, Ok, Err}
use Rattle.corner.specs.declared.Corner.{Corner}
use Rattle.refusal.specs.Refusal.{number_of}
use Rattle.refusal.specs.declared.Refusal.{Refusal}
use Rattle.walker.specs.Walker.{Step, Moved, stays, arrives}

abbrev pub told : ℕ → Result (Option Corner) Refusal → Moved
told c (Ok (Some d)) = arrives d.0
told c (Ok None) = stays 0 c
told c (Err e) = stays (number_of e) c

-- whether it moved
abbrev pub told_step : Result Bool Refusal → Step
told_step (Ok moved) = record { answer = 0; moved = moved }
told_step (Err e) = record { answer = number_of e; moved = false }
