-- A side of a walk by the corners that it crosses to, and by opposites alone: what it visits once it is known how many (proofs/Reached.antt).
use Rattle.std.specs.Prelude.{ℕ, zero, suc, ◌<◌, Bool, not, List, [], ◌∷◌, length}
use Rattle.corner.specs.Corner.{turn}
use Rattle.table.specs.Slots.{opposite_at}

-- the n corners that are reached by crossing to o and so on from there
unfoldable pub reached : Bool → List ℕ → ℕ → ℕ → List ℕ
reached left opp zero o = []
reached left opp (suc n) o = turn left o ∷ reached left opp n (opposite_at opp (turn (not left) o))

-- each is crossed to below `room`, and crosses on at a slot of the list
unfoldable pub Inside : Bool → List ℕ → ℕ → ℕ → ℕ → Type 0
Inside left opp room zero o = Unit {0}
Inside left opp room (suc n) o =
    (o < room) × (turn (not left) o < length opp) × Inside left opp room n (opposite_at opp (turn (not left) o))
