-- The walk about a vertex, on any table. Document 01, "Ring lists and the walker".
use Rattle.std.specs.Prelude.{ℕ, zero, suc, ◌+◌, ◌-◌, List, [], ◌∷◌, ◌++◌, Bool, true, false, cond, ◌&&◌, length, eqb}
use Rattle.corner.specs.Corner.{absent, next, previous, turn}
use Rattle.table.specs.Slots.{opposite_at, mark_at}
use Rattle.table.specs.Table.{live}
use Rattle.traversal_visits.specs.declared.End.{End}
use Rattle.traversal_visits.specs.declared.Counted.{Counted}
use Rattle.traversal_visits.specs.declared.Counted.TheVariants.{Tangled, Closed, Open}
use Rattle.traversal_visits.specs.declared.End.TheVariants.{AtBorder, AtTangle, AtStart}

-- "to visit one is to step to all three of its face", and a step to a corner that is not live is a tangle
unfoldable pub face_live : List ℕ → ℕ → ℕ → Bool
face_live mark used c = live mark used c && (live mark used (next c) && live mark used (previous c))

-- the same marks from the face's first slot on, as the code reads them
unfoldable pub unmarked : List ℕ → ℕ → Bool
unmarked mark b = eqb (mark_at mark b) 0 && (eqb (mark_at mark (b + 1)) 0 && eqb (mark_at mark (b + 2)) 0)

-- what a swing finds
pub data Swing : Type 0 where
  border : Swing
  tangle : Swing
  to : ℕ → Swing

-- "swing left is next, opposite, next; swing right is previous, opposite, previous": a border where there is no opposite
abbrev pub onto : Bool → List ℕ → ℕ → ℕ → Swing
onto left mark used o = cond (eqb o absent) border (cond (face_live mark used o) (to (turn left o)) tangle)

unfoldable pub swing : Bool → List ℕ → List ℕ → ℕ → ℕ → Swing
swing left opp mark used c = onto left mark used (opposite_at opp (turn left c))

-- one side of a walk: the corners that it visits, in order, and how it ends
pub record Side : Type 0 where
  pub visits : List ℕ
  pub end : End

abbrev pub stop : End → Side
stop e = record { visits = []; end = e }

abbrev pub more : ℕ → Side → Side
more d s = record { visits = d ∷ s.visits; end = s.end }

-- a left walk that is back at its start has closed the ring: "the swing that closes a ring adds no visit"
abbrev pub closes : Bool → ℕ → ℕ → Bool
closes left c₀ d = left && eqb d c₀

-- the corner that such a swing crosses to, as the code tests it; a walk to the right has none
unfoldable pub last_crossed : Bool → ℕ → ℕ
last_crossed left c₀ = cond left (previous c₀) absent

-- what a swing leads to: an end, or a corner that is visited unless it closes the ring
abbrev pub on_swing : Bool → ℕ → Swing → (ℕ → Side) → Side
on_swing left c₀ border visit = stop AtBorder
on_swing left c₀ tangle visit = stop AtTangle
on_swing left c₀ (to d) visit = cond (closes left c₀ d) (stop AtStart) (visit d)

-- the rest of the walk from c, with room for so many visits more; it began at c₀. Without room a visit is a tangle
unfoldable pub side : Bool → List ℕ → List ℕ → ℕ → ℕ → ℕ → ℕ → Side
side left opp mark used c₀ zero c = on_swing left c₀ (swing left opp mark used c) (λ d. stop AtTangle)
side left opp mark used c₀ (suc room) c =
    on_swing left c₀ (swing left opp mark used c) (λ d. more d (side left opp mark used c₀ room d))

-- "swings left from the vertex's corner, then, if a border was met, the right side". Of the used corners the first is one visit, and
-- what the left side leaves is the right side's room
module _ (opp mark : List ℕ) (used c : ℕ) where
  unfoldable pub left_of : Side
  left_of = side true opp mark used c (used - 1) c

  unfoldable pub right_of : Side
  right_of = side false opp mark used c (used - 1 - length left_of.visits) c

-- the whole walk: tangled; a closed ring, its first corner and the others; or an open fan, its first corner, those to its left and
-- those to its right
pub data Walk : Type 0 where
  tangled : Walk
  closed : ℕ → List ℕ → Walk
  open' : ℕ → List ℕ → List ℕ → Walk

unfoldable pub after_right : ℕ → List ℕ → Side → End → Walk
after_right c l r AtBorder = open' c l r.visits
after_right c l r AtTangle = tangled
after_right c l r AtStart = tangled

unfoldable pub after_left : ℕ → Side → Side → End → Walk
after_left c l r AtBorder = after_right c l.visits r r.end
after_left c l r AtTangle = tangled
after_left c l r AtStart = closed c l.visits

-- "Answer 15 is given exactly when the walk steps to a corner that isn't live, or would visit more corners than are used"
unfoldable pub walk : List ℕ → List ℕ → ℕ → ℕ → Walk
walk opp mark used c =
    cond (face_live mark used c)
    (after_left c (left_of opp mark used c) (right_of opp mark used c) (left_of opp mark used c).end)
    tangled

-- "how many corners the walk visited, which is the number the definition visits: the vertex's corner and each one reached by a swing"
abbrev pub visits : Walk → List ℕ
visits tangled = []
visits (closed c l) = c ∷ l
visits (open' c l r) = (c ∷ l) ++ r

-- how many corners a walk visits after the first, as the code counts them
abbrev pub counted : Walk → Counted
counted tangled = Tangled
counted (closed c l) = Closed (length l)
counted (open' c l r) = Open (length l) (length r)
