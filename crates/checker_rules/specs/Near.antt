-- R5's walks: from a corner, swings to the left and to the right at once.
use Rattle.std.specs.Prelude.{ℕ, zero, suc, List, Bool, true, false, cond, ◌||◌, ltb, eqb}
use Rattle.corner.specs.Corner.{absent, turn}
use Rattle.table.specs.Slots.{opposite_at}

-- "swing left is next, opposite, next; swing right is previous, opposite, previous", absent past a border
abbrev pub across : Bool → ℕ → ℕ
across left o = cond (eqb o absent) absent (turn left o)

unfoldable pub beside : Bool → List ℕ → ℕ → ℕ
beside left co c = across left (opposite_at co (turn left c))

-- x is s, or comes before c
abbrev pub hits : ℕ → ℕ → ℕ → Bool
hits s c x = eqb x s || ltb x c

-- two walks at once, a to the left and b to the right, till one of them hits
unfoldable pub near : List ℕ → ℕ → ℕ → ℕ → ℕ → ℕ → Bool
near co s c zero a b = false
near co s c (suc room) a b =
    cond (hits s c a) true (cond (hits s c b) true (near co s c room (beside true co a) (beside false co b)))
