-- A corner that may be missing, as the number that a slot holds for it.
use Rattle.std.specs.Prelude.{ℕ, Option, Some, None}
use Rattle.corner.specs.Corner.{absent}
use Rattle.corner.specs.declared.Corner.{Corner}

abbrev pub told : Option Corner → ℕ
told None = absent
told (Some c) = c.0
