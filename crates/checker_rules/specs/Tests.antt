-- Document 01, "Well-formed": R1 to R6 as tests of one slot.
use Rattle.std.specs.Prelude.{ℕ, ◌%◌, ◌<◌, ◌≡◌, List, Bool, true, ◌&&◌, not, leb, eqb, Float}
use Rattle.table.specs.Words.{implies}
use Rattle.corner.specs.Corner.{absent, next, previous}
use Rattle.vertex.specs.Point.{finite_point}
use Rattle.table.specs.Slots.{vertex_at, opposite_at, corner_at, mark_at, point_at}
use Rattle.table.specs.Table.{Table, corner_room, vertex_room, live}
use Rattle.checker_rules.specs.Near.{near}
use Rattle.checker_kinds.specs.Kinds.{span}
use Rattle.checker_kinds.specs.declared.Test.{Test}
use Rattle.checker_kinds.specs.declared.Test.TheVariants.{Counts, CornerMark, FaceMark, VertexMark, CornerVertex}
use Rattle.checker_kinds.specs.declared.Test.TheVariants.{FaceVertex, Opposite, VertexCorner, CornerFan, Finite}

-- "R1 Counts are within room; the corner count is a multiple of 3."
unfoldable pub counts_test : (croom vroom nv nc : ℕ) → Bool
counts_test croom vroom nv nc = leb nc croom && (leb nv vroom && eqb (nc % 3) 0)

-- "R2 Marks are 0 or 1 ..."
unfoldable pub mark_test : List ℕ → ℕ → Bool
mark_test marks i = leb (mark_at marks i) 1

-- "... a face's three marks agree": at each of its corners, with the next one
unfoldable pub face_test : List ℕ → ℕ → Bool
face_test cm c = eqb (mark_at cm (next c)) (mark_at cm c)

-- "R3 A live corner's vertex is a used, live vertex ..."
unfoldable pub vertex_test : (cv cm vm : List ℕ) (nv nc : ℕ) → ℕ → Bool
vertex_test cv cm vm nv nc c = implies (live cm nc c) (live vm nv (vertex_at cv c))

-- "... a live face's three differ": at each of its corners, from the next one
unfoldable pub differ_test : (cv cm : List ℕ) (nc : ℕ) → ℕ → Bool
differ_test cv cm nc c = implies (live cm nc c) (not (eqb (vertex_at cv c) (vertex_at cv (next c))))

-- "R4 A live corner's opposite is absent, or a used live corner whose opposite is this one, with the edge running the other way."
unfoldable pub back_test : List ℕ → ℕ → ℕ → Bool
back_test cv c o =
    eqb (vertex_at cv (next o)) (vertex_at cv (previous c)) && eqb (vertex_at cv (previous o)) (vertex_at cv (next c))

unfoldable pub mates_test : (cv co cm : List ℕ) (nc : ℕ) → ℕ → ℕ → Bool
mates_test cv co cm nc c o = live cm nc o && (eqb (opposite_at co o) c && back_test cv c o)

unfoldable pub opposite_test : (cv co cm : List ℕ) (nc : ℕ) → ℕ → Bool
opposite_test cv co cm nc c =
    implies (live cm nc c) (implies (not (eqb (opposite_at co c) absent)) (mates_test cv co cm nc c (opposite_at co c)))

-- "R5 A live vertex's corner is a live corner of that vertex ..."
unfoldable pub corner_test : (cv cm vc vm : List ℕ) (nv nc : ℕ) → ℕ → Bool
corner_test cv cm vc vm nv nc v =
    implies (live vm nv v) (live cm nc (corner_at vc v) && eqb (vertex_at cv (corner_at vc v)) v)

-- "... and every live corner of the vertex lies in the fan of that one." From c, swings lead to the vertex's corner, or to a corner
-- before c, which has passed this test already.
unfoldable pub fan_test : (cv co cm vc : List ℕ) (nc : ℕ) → ℕ → Bool
fan_test cv co cm vc nc c = implies (live cm nc c) (near co (corner_at vc (vertex_at cv c)) c nc c c)

-- "R6 The three numbers of a live vertex are finite."
unfoldable pub point_test : List ℕ → List Float → ℕ → ℕ → Bool
point_test vm vp nv v = implies (live vm nv v) (finite_point (point_at vp v))

-- a test at a slot of a table
unfoldable pub holds : Test → Table → ℕ → Bool
holds Counts t i = counts_test (corner_room t) (vertex_room t) t.vertices t.corners
holds CornerMark t i = mark_test t.corner_mark i
holds FaceMark t i = face_test t.corner_mark i
holds VertexMark t i = mark_test t.vertex_mark i
holds CornerVertex t i = vertex_test t.corner_vertex t.corner_mark t.vertex_mark t.vertices t.corners i
holds FaceVertex t i = differ_test t.corner_vertex t.corner_mark t.corners i
holds Opposite t i = opposite_test t.corner_vertex t.corner_opposite t.corner_mark t.corners i
holds VertexCorner t i =
    corner_test t.corner_vertex t.corner_mark t.vertex_corner t.vertex_mark t.vertices t.corners i
holds CornerFan t i = fan_test t.corner_vertex t.corner_opposite t.corner_mark t.vertex_corner t.corners i
holds Finite t i = point_test t.vertex_mark t.vertex_point t.vertices i

-- at all slots that it goes over
abbrev pub AllHold : Test → Table → Type 0
AllHold test t = (i : ℕ) → i < span test t.vertices t.corners → holds test t i ≡ true
