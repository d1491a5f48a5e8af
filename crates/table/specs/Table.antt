-- Document 01, "What a table holds".
use Rattle.std.specs.Prelude.{ℕ, ◌*◌, ◌<◌, ◌≤◌, Bool, ◌&&◌, ◌≡◌, List, ◌++◌, eqb, ltb, leb, Float, length, replicate}
use Rattle.corner.specs.Corner.{absent}
use Rattle.vertex.specs.declared.Point.{Point}
use Rattle.table.specs.Slots.{vertex_at, opposite_at, corner_at, mark_at, nought, point_at}

-- "Corner slot: vertex, opposite .. deleted mark 0 or 1. Vertex slot: corner, a point of three f32 numbers, deleted mark. Two counts: vertex
-- slots used, corner slots used." A point's three numbers stand in a row.
pub record Table : Type 0 where
  pub corner_vertex : List ℕ
  pub corner_opposite : List ℕ
  pub corner_mark : List ℕ
  pub vertex_corner : List ℕ
  pub vertex_mark : List ℕ
  pub vertex_point : List Float
  pub vertices : ℕ
  pub corners : ℕ

-- The one place that puts a table together, and the named changes of a part.
abbrev pub table : List ℕ → List ℕ → List ℕ → List ℕ → List ℕ → List Float → ℕ → ℕ → Table
table cv co cm vc vm vp nv nc =
    record {
      corner_vertex = cv;
      corner_opposite = co;
      corner_mark = cm;
      vertex_corner = vc;
      vertex_mark = vm;
      vertex_point = vp;
      vertices = nv;
      corners = nc;
    }

abbrev pub with_corner_vertex : Table → List ℕ → Table
with_corner_vertex t l =
    table l t.corner_opposite t.corner_mark t.vertex_corner t.vertex_mark t.vertex_point t.vertices t.corners

abbrev pub with_corner_opposite : Table → List ℕ → Table
with_corner_opposite t l =
    table t.corner_vertex l t.corner_mark t.vertex_corner t.vertex_mark t.vertex_point t.vertices t.corners

abbrev pub with_corner_mark : Table → List ℕ → Table
with_corner_mark t l =
    table t.corner_vertex t.corner_opposite l t.vertex_corner t.vertex_mark t.vertex_point t.vertices t.corners

abbrev pub with_vertex_corner : Table → List ℕ → Table
with_vertex_corner t l =
    table t.corner_vertex t.corner_opposite t.corner_mark l t.vertex_mark t.vertex_point t.vertices t.corners

abbrev pub with_vertex_point : Table → List Float → Table
with_vertex_point t l =
    table t.corner_vertex t.corner_opposite t.corner_mark t.vertex_corner t.vertex_mark l t.vertices t.corners

abbrev pub with_counts : Table → ℕ → ℕ → Table
with_counts t nv nc =
    table t.corner_vertex t.corner_opposite t.corner_mark t.vertex_corner t.vertex_mark t.vertex_point nv nc

-- "both counts 0 and every slot blank: vertex 0, opposite and corner u32::MAX, numbers 0.0, marks 0", with room for c corners and v vertices
abbrev pub blank : (c v : ℕ) → Table
blank c v = table (replicate c 0) (replicate c absent) (replicate c 0) (replicate v absent) (replicate v 0) (replicate (3 * v) nought) 0 0

-- the same table with blank slots on the end, c corners and v vertices more
abbrev pub extended : (c v : ℕ) → Table → Table
extended c v t =
    table
    (t.corner_vertex ++ (blank c v).corner_vertex)
    (t.corner_opposite ++ (blank c v).corner_opposite)
    (t.corner_mark ++ (blank c v).corner_mark)
    (t.vertex_corner ++ (blank c v).vertex_corner)
    (t.vertex_mark ++ (blank c v).vertex_mark)
    (t.vertex_point ++ (blank c v).vertex_point)
    t.vertices
    t.corners

-- "Room for at most 65,535 vertices and 196,605 corners, in memory that the caller lends."
abbrev pub max_vertices : ℕ
max_vertices = 65535

abbrev pub max_corners : ℕ
max_corners = 196605

abbrev pub corner_room : Table → ℕ
corner_room t = length t.corner_mark

abbrev pub vertex_room : Table → ℕ
vertex_room t = length t.vertex_mark

-- Answer 1: "lent parts disagree in length, or room above the maximum". The test, on the six lengths and on a table.
unfoldable pub shaped_by : (cv co cm vc vm vp : ℕ) → Bool
shaped_by cv co cm vc vm vp =
    leb cm max_corners && (leb vm max_vertices && (eqb cv cm && (eqb co cm && (eqb vc vm && eqb vp (3 * vm)))))

abbrev pub shaped : Table → Bool
shaped t =
    shaped_by (length t.corner_vertex) (length t.corner_opposite) (corner_room t) (length t.vertex_corner) (vertex_room t)
    (length t.vertex_point)

-- ... and what it says where it passes.
pub record Shaped (t : Table) : Type 0 where
  pub corner_most : corner_room t ≤ max_corners
  pub vertex_most : vertex_room t ≤ max_vertices
  pub corner_vertex_room : length t.corner_vertex ≡ corner_room t
  pub corner_opposite_room : length t.corner_opposite ≡ corner_room t
  pub vertex_corner_room : length t.vertex_corner ≡ vertex_room t
  pub vertex_point_room : length t.vertex_point ≡ 3 * vertex_room t

-- What a slot holds.
abbrev pub vertex : Table → ℕ → ℕ
vertex t c = vertex_at t.corner_vertex c

abbrev pub opposite : Table → ℕ → ℕ
opposite t c = opposite_at t.corner_opposite c

abbrev pub corner : Table → ℕ → ℕ
corner t v = corner_at t.vertex_corner v

abbrev pub point : Table → ℕ → Point
point t v = point_at t.vertex_point v

-- "A slot is used if its number is below both the count and the room. It is live if used with mark 0, and deleted if used with any
-- other mark." A mark past the room reads as 1, so that below the count with mark 0 is live: the test, and the statement.
unfoldable pub live : List ℕ → ℕ → ℕ → Bool
live marks n i = ltb i n && eqb (mark_at marks i) 0

abbrev pub Live : Table → ℕ → Type 0
Live t c = (c < t.corners) × (mark_at t.corner_mark c ≡ 0)

abbrev pub LiveVertex : Table → ℕ → Type 0
LiveVertex t v = (v < t.vertices) × (mark_at t.vertex_mark v ≡ 0)
