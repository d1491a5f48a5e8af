-- The first of two corners that is there: what Option's `or` tells. Assumes nothing.
use mathlib.Core.Path.{◌≡◌, refl}
use mathlib.Core.Logic.{◌≢◌}
use borrow.Author.Tests.{ne_eqb}
use Rattle.std.specs.Prelude.{Option, Some, None, IfSome}
use Rattle.std.specs.Option.{option_or}
use Rattle.corner.specs.Corner.{absent}
use Rattle.corner.specs.Told.{told}
use Rattle.corner.specs.declared.Corner.{Corner}
use Rattle.edit_collapse.specs.Collapse.{either}

pub or_told : (a b : Option Corner) → IfSome a (λ c. c.0 ≢ absent) → told (option_or a b) ≡ either (told a) (told b)
unfolding either
or_told None b h = refl
or_told (Some c) b h = rw (ne_eqb c.0 absent h)
