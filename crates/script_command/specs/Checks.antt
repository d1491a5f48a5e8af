-- Document 01, "Checks for a command, in order", and "Numbers handed back": what needs no table.
use Rattle.std.specs.Prelude.{ℕ, ◌+◌, ◌/◌, ◌%◌, Bool, cond, not, ◌&&◌, eqb, ltb, leb}
use Rattle.corner.specs.Corner.{absent}

-- the first refusal of a chain: a unless it is 0, then b; and n where something is wrong
unfoldable pub first : ℕ → ℕ → ℕ
first a b = cond (eqb a 0) b a

abbrev pub when : Bool → ℕ → ℕ
when wrong n = cond wrong n 0

-- 9 "no such target", 10 "target deleted", by whether the target is used and by its mark
unfoldable pub targeted : Bool → ℕ → ℕ
targeted used mark = cond used (when (not (eqb mark 0)) 10) 9

-- 5 "no vertex room", 6 "no corner room", for one vertex and n corners more
unfoldable pub room_for : (vertices vroom corners croom n : ℕ) → ℕ
room_for vertices vroom corners croom n = first (when (ltb vroom (vertices + 1)) 5) (when (ltb croom (corners + n)) 6)

-- "An inner edge or a face needs 1 vertex and 6 corners; a border edge 1 and 3.", by the edge's opposite
abbrev pub corners_for : ℕ → ℕ
corners_for o = cond (eqb o absent) 3 6

-- not 8: "script not a multiple of five words, or fewer answer words than commands"
unfoldable pub fits : ℕ → ℕ → Bool
fits words answers = eqb (words % 5) 0 && leb (words / 5) answers
