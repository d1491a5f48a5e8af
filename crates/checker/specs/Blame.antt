-- What a verdict means. Document 01, "Well-formed", and answers 0, 1 and 7.
use Rattle.std.specs.Prelude.{ℕ, ◌+◌, ◌<◌, ◌≤◌, ◌%◌, true, ◌≡◌, ◌≢◌}
use Rattle.corner.specs.Corner.{absent}
use Rattle.vertex.specs.Point.{finite_point}
use Rattle.table.specs.Slots.{mark_at}
use Rattle.table.specs.Table.{Table, corner_room, vertex_room, vertex, opposite, corner, point, Live, LiveVertex, Shaped}
use Rattle.table.specs.Rules.{Fan, Mate, WellFormed}
use Rattle.checker_kinds.specs.Kinds.{tests, test_at, rule_of}
use Rattle.checker_kinds.specs.declared.Test.{Test}
use Rattle.checker_kinds.specs.declared.Test.TheVariants.{Counts, CornerMark, FaceMark, VertexMark, CornerVertex}
use Rattle.checker_kinds.specs.declared.Test.TheVariants.{FaceVertex, Opposite, VertexCorner, CornerFan, Finite}
use Rattle.checker.specs.Order.{passed, disagree, broken}
use Rattle.checker.specs.Verdict.{Verdict}

-- What the rules ask of a slot, one kind of slot after the other. A face goes by its first corner c, and has the corners c, c + 1, c + 2.
unfoldable pub Obeys : Test → Table → ℕ → Type 0
-- "R1 Counts are within room; the corner count is a multiple of 3."
Obeys Counts t i = (t.corners ≤ corner_room t) × (t.vertices ≤ vertex_room t) × (t.corners % 3 ≡ 0)
-- "R2 Marks are 0 or 1; a face's three marks agree."
Obeys CornerMark t c = mark_at t.corner_mark c ≤ 1
Obeys FaceMark t c =
    (mark_at t.corner_mark (c + 1) ≡ mark_at t.corner_mark c) × (mark_at t.corner_mark (c + 2) ≡ mark_at t.corner_mark c)
Obeys VertexMark t v = mark_at t.vertex_mark v ≤ 1
-- "R3 A live corner's vertex is a used, live vertex; a live face's three differ."
Obeys CornerVertex t c = Live t c → LiveVertex t (vertex t c)
Obeys FaceVertex t c =
    Live t c → (vertex t c ≢ vertex t (c + 1)) × (vertex t (c + 1) ≢ vertex t (c + 2)) × (vertex t (c + 2) ≢ vertex t c)
-- "R4 A live corner's opposite is absent, or a used live corner whose opposite is this one, with the edge running the other way."
Obeys Opposite t c = Live t c → opposite t c ≢ absent → Mate (Live t) (opposite t) (vertex t) c (opposite t c)
-- "R5 A live vertex's corner is a live corner of that vertex, and every live corner of the vertex lies in the fan of that one."
Obeys VertexCorner t v = LiveVertex t v → Live t (corner t v) × (vertex t (corner t v) ≡ v)
Obeys CornerFan t c = Live t c → Fan (opposite t) (corner t (vertex t c)) c
-- "R6 The three numbers of a live vertex are finite."
Obeys Finite t v = LiveVertex t v → finite_point (point t v) ≡ true

-- The slots of a kind: used ones, a face by its first corner, and 0 for the counts.
unfoldable pub Slot : Test → Table → ℕ → Type 0
Slot Counts t i = i ≡ 0
Slot CornerMark t c = c < t.corners
Slot FaceMark t c = (c < t.corners) × (c % 3 ≡ 0)
Slot VertexMark t v = v < t.vertices
Slot CornerVertex t c = c < t.corners
Slot FaceVertex t c = (c < t.corners) × (c % 3 ≡ 0)
Slot Opposite t c = c < t.corners
Slot VertexCorner t v = v < t.vertices
Slot CornerFan t c = c < t.corners
Slot Finite t v = v < t.vertices

-- all slots of a kind keep the rule
abbrev pub AllObey : Test → Table → Type 0
AllObey test t = (i : ℕ) → Slot test t i → Obeys test t i

-- Answer 7: the named rule is broken at the named slot, which is of the k-th kind; the kinds before that one and the slots of that
-- kind before this one keep the rules; so do all lower rules.
pub record Blames (t : Table) (rule slot : ℕ) : Type 0 where
  pub k : ℕ
  pub kind : k < tests
  pub named : rule ≡ rule_of (test_at k)
  pub used : Slot (test_at k) t slot
  pub breaks : Obeys (test_at k) t slot → ⊥
  pub lowest_slot : (i : ℕ) → i < slot → Slot (test_at k) t i → Obeys (test_at k) t i
  pub earlier_kinds : (j : ℕ) → j < k → AllObey (test_at j) t
  pub lower_rules : (test : Test) → rule_of test < rule → AllObey test t

-- The three answers, and when each is given.
pub data Judged (t : Table) : Verdict → Type 0 where
  unshaped : (Shaped t → ⊥) → Judged t disagree
  sound : Shaped t → WellFormed t → Judged t passed
  blamed : {rule slot : ℕ} → Shaped t → Blames t rule slot → Judged t (broken rule slot)
