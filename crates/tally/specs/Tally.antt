-- The tests that the counts of table/specs/Euler count by.
use Rattle.std.specs.Prelude.{ℕ, Bool, ◌&&◌, not, List, eqb}
use Rattle.corner.specs.Corner.{absent}
use Rattle.table.specs.Slots.{opposite_at}
use Rattle.table.specs.Table.{live}

-- "live corners without opposite"
unfoldable pub bare : (co cm : List ℕ) (nc : ℕ) → ℕ → Bool
bare co cm nc = λ c. live cm nc c && eqb (opposite_at co c) absent

-- "... those with one"
unfoldable pub paired : (co cm : List ℕ) (nc : ℕ) → ℕ → Bool
paired co cm nc = λ c. live cm nc c && not (eqb (opposite_at co c) absent)
