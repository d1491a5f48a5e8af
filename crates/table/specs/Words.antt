-- The word that the library lacks.
use Rattle.std.specs.Prelude.{Bool, true, cond}

-- where a is so, b is
abbrev pub implies : Bool → Bool → Bool
implies a b = cond a b true
