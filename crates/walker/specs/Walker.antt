-- The moves of a walker, on any table. Document 01, "Ring lists and the walker".
use Rattle.std.specs.Prelude.{ℕ, List, Bool, true, false, cond, ◌&&◌, ltb, eqb, length}
use Rattle.corner.specs.Corner.{absent, next, previous, turn}
use Rattle.table.specs.Slots.{opposite_at, mark_at}
use Rattle.table.specs.Table.{Table, shaped, live}
use Rattle.corner.specs.declared.Corner.{Corner}
use Rattle.walker.specs.declared.Move.{Move}
use Rattle.walker.specs.declared.Move.TheVariants.{Next, Previous, Opposite, SwingLeft, SwingRight}

-- the answer, and whether the walker moved: not after a refusal, nor where an absent opposite made it stay
pub record Step : Type 0 where
  pub answer : ℕ
  pub moved : Bool

pub record Moved : Type 0 where
  pub corner : Corner
  pub step : Step

-- What a move comes to: the corner that it leaves the walker at, the answer, and whether it moved.
-- "After any refusal, also halfway through a swing, it stands where it began." "An absent opposite answers 0, leaves it where it stood
-- and says so": that is to stay with answer 0
abbrev pub stays : ℕ → ℕ → Moved
stays answer c = record { corner = record { 0 = c }; step = record { answer = answer; moved = false } }

abbrev pub arrives : ℕ → Moved
arrives d = record { corner = record { 0 = d }; step = record { answer = 0; moved = true } }

-- "Order: 1; a corner it stands on that isn't used is 9, a deleted one 10": 0 where none of them is due
unfoldable pub standing : List ℕ → ℕ → ℕ → ℕ
standing mark n c = cond (ltb c n && ltb c (length mark)) (cond (eqb (mark_at mark c) 0) 0 10) 9

unfoldable pub refusal : Table → ℕ → ℕ
refusal t c = cond (shaped t) (standing t.corner_mark t.corners c) 1

-- "any corner it would step to that isn't live is 15": from c to d, and last to d
unfoldable pub step_to : List ℕ → ℕ → ℕ → ℕ → Moved
step_to mark n c d = cond (live mark n d) (arrives d) (stays 15 c)

unfoldable pub step_over : List ℕ → List ℕ → ℕ → ℕ → Moved
step_over opp mark n c = cond (eqb (opposite_at opp c) absent) (stays 0 c) (step_to mark n c (opposite_at opp c))

-- "swing left is next, opposite, next; swing right is previous, opposite, previous"; the Rust's `swing_left_or_stay` and
-- `swing_right_or_stay`
abbrev pub swing_over : Bool → List ℕ → ℕ → ℕ → ℕ → Moved
swing_over left mark n c o = cond (eqb o absent) (stays 0 c) (cond (live mark n o) (step_to mark n c (turn left o)) (stays 15 c))

unfoldable pub swing_to : Bool → List ℕ → List ℕ → ℕ → ℕ → Moved
swing_to left opp mark n c =
    cond (live mark n (turn left c)) (swing_over left mark n c (opposite_at opp (turn left c))) (stays 15 c)

-- a move from c, once the refusals are passed
unfoldable pub unless : Table → ℕ → Moved → Moved
unless t c m = cond (eqb (refusal t c) 0) m (stays (refusal t c) c)

-- the five moves
abbrev pub to_next : Table → ℕ → Moved
to_next t c = unless t c (step_to t.corner_mark t.corners c (next c))

abbrev pub to_previous : Table → ℕ → Moved
to_previous t c = unless t c (step_to t.corner_mark t.corners c (previous c))

abbrev pub to_opposite : Table → ℕ → Moved
to_opposite t c = unless t c (step_over t.corner_opposite t.corner_mark t.corners c)

abbrev pub swung_left : Table → ℕ → Moved
swung_left t c = unless t c (swing_to true t.corner_opposite t.corner_mark t.corners c)

abbrev pub swung_right : Table → ℕ → Moved
swung_right t c = unless t c (swing_to false t.corner_opposite t.corner_mark t.corners c)

abbrev pub moved_by : Move → Table → ℕ → Moved
moved_by Next t c = to_next t c
moved_by Previous t c = to_previous t c
moved_by Opposite t c = to_opposite t c
moved_by SwingLeft t c = swung_left t c
moved_by SwingRight t c = swung_right t c
