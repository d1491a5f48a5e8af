-- Corners and faces by their numbers. Document 01, "What a table holds".
use Rattle.std.specs.Prelude.{ℕ, ◌+◌, ◌-◌, ◌*◌, ◌/◌, ◌%◌, Bool, true, false, cond, eqb}

-- "the absent corner is u32::MAX"
abbrev pub absent : ℕ
absent = 4294967295

-- "Next of c is c−2 if c mod 3 is 2, else c+1."
unfoldable pub next : ℕ → ℕ
next c = cond (eqb (c % 3) 2) (c - 2) (c + 1)

-- "Previous is c+2 if c mod 3 is 0, else c−1."
unfoldable pub previous : ℕ → ℕ
previous c = cond (eqb (c % 3) 0) (c + 2) (c - 1)

-- "Face f has corners 3f, 3f+1, 3f+2."
abbrev pub face : ℕ → ℕ
face c = c / 3

abbrev pub first_corner : ℕ → ℕ
first_corner f = 3 * f

-- the turn of a swing: "swing left is next, opposite, next; swing right is previous, opposite, previous"
abbrev pub turn : Bool → ℕ → ℕ
turn true c = next c
turn false c = previous c
