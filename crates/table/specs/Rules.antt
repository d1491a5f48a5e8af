-- Document 01, "Well-formed".
use Rattle.std.specs.Prelude.{ℕ, ◌<◌, ◌≤◌, ◌%◌, true, ◌≡◌, ◌≢◌}
use Rattle.corner.specs.Corner.{absent, next, previous}
use Rattle.vertex.specs.Point.{finite_point}
use Rattle.table.specs.Slots.{mark_at}
use Rattle.table.specs.Table.{Table, corner_room, vertex_room, vertex, opposite, corner, point, Live, LiveVertex, Shaped}

-- "The fan of a corner: swing left is next, opposite, next; swing right is previous, opposite, previous."
pub data Fan (opp : ℕ → ℕ) (c : ℕ) : ℕ → Type 0 where
  here : Fan opp c c
  left : {d e : ℕ} → Fan opp c d → opp (next d) ≢ absent → next (opp (next d)) ≡ e → Fan opp c e
  right : {d e : ℕ} → Fan opp c d → opp (previous d) ≢ absent → previous (opp (previous d)) ≡ e → Fan opp c e

-- "a used live corner whose opposite is this one, with the edge running the other way". "The edge opposite a corner runs from
-- next's vertex to previous's vertex."
pub record Mate (live : ℕ → Type 0) (opp vtx : ℕ → ℕ) (c e : ℕ) : Type 0 where
  pub over : live e
  pub pair : opp e ≡ c
  pub tail : vtx (next e) ≡ vtx (previous c)
  pub head : vtx (previous e) ≡ vtx (next c)

pub record WellFormed (t : Table) : Type 0 where
  -- "R1 Counts are within room; the corner count is a multiple of 3."
  pub corners_fit : t.corners ≤ corner_room t
  pub vertices_fit : t.vertices ≤ vertex_room t
  pub thirds : t.corners % 3 ≡ 0
  -- "R2 Marks are 0 or 1; a face's three marks agree."
  pub corner_marks : (c : ℕ) → c < t.corners → mark_at t.corner_mark c ≤ 1
  pub face_marks : (c : ℕ) → c < t.corners → mark_at t.corner_mark (next c) ≡ mark_at t.corner_mark c
  pub vertex_marks : (v : ℕ) → v < t.vertices → mark_at t.vertex_mark v ≤ 1
  -- "R3 A live corner's vertex is a used, live vertex; a live face's three differ."
  pub vertex_live : (c : ℕ) → Live t c → LiveVertex t (vertex t c)
  pub differ : (c : ℕ) → Live t c → vertex t c ≢ vertex t (next c)
  -- "R4 A live corner's opposite is absent, or a used live corner whose opposite is this one, with the edge running the other way."
  pub mate : (c : ℕ) → Live t c → opposite t c ≢ absent → Mate (Live t) (opposite t) (vertex t) c (opposite t c)
  -- "R5 A live vertex's corner is a live corner of that vertex, and every live corner of the vertex lies in the fan of that one."
  pub corner_live : (v : ℕ) → LiveVertex t v → Live t (corner t v)
  pub corner_own : (v : ℕ) → LiveVertex t v → vertex t (corner t v) ≡ v
  pub one_fan : (c : ℕ) → Live t c → Fan (opposite t) (corner t (vertex t c)) c
  -- "R6 The three numbers of a live vertex are finite."
  pub finite : (v : ℕ) → LiveVertex t v → finite_point (point t v) ≡ true

-- parts that agree, and a well-formed table in them: what a check answers 0 to
pub record Good (t : Table) : Type 0 where
  pub shaped : Shaped t
  pub well_formed : WellFormed t
