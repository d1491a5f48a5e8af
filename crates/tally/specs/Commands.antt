-- Commands by their kind. Document 01, "The script": "five to a command: kind, target, ..".
use Rattle.std.specs.Prelude.{ℕ, ◌*◌, Bool, cond, ◌&&◌, ◌||◌, List, eqb, leb, get_or}
use Rattle.tally.specs.declared.Kind.{Kind}
use Rattle.tally.specs.declared.Kind.TheVariants.{Collapse, Flip, SplitEdge, SplitFace, Unknown}

-- "1 collapse edge, 2 flip edge, 3 split edge, 4 split face", and 0 for any other
unfoldable pub kind_of : ℕ → ℕ
kind_of word = cond (leb word 4) word 0

abbrev pub number_of : Kind → ℕ
number_of Collapse = 1
number_of Flip = 2
number_of SplitEdge = 3
number_of SplitFace = 4
number_of Unknown = 0

-- command i is of the kind, and, unless all are asked for, answered 0
unfoldable pub of_kind : (script answers : List ℕ) (kind : ℕ) (all : Bool) → ℕ → Bool
of_kind script answers kind all i = eqb (kind_of (get_or script (5 * i) 0)) kind && (all || eqb (get_or answers i 0) 0)
