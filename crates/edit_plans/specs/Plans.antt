-- What an edit reads before it writes: the corners c0.., vertices v0.. and outer opposites o0.. of a face, or of the two faces at an edge.
use Rattle.std.specs.Prelude.{ℕ, ◌+◌, ◌<◌, List, [], ◌∷◌, length, set}
use Rattle.corner.specs.Corner.{absent, next}
use Rattle.corner.specs.declared.Corner.{Corner}
use Rattle.vertex.specs.declared.Vertex.{Vertex}
use Rattle.table.specs.Slots.{vertex_at, opposite_at, three}
use Rattle.table.specs.Table.{Table, opposite}
use Rattle.edit_plans.specs.declared.Around.{Around}
use Rattle.edit_plans.specs.declared.Triangle.{Triangle}

abbrev pub corner : ℕ → Corner
corner n = record { 0 = n }

abbrev pub vertex : ℕ → Vertex
vertex n = record { 0 = n }

-- The face of c0. ok is the opposite of ck.
--
--          v1
--         /c1\
--     o0 /    \ o2
--       /c2__c0\
--     v2   o1   v0
unfoldable pub triangle : List ℕ → List ℕ → ℕ → Triangle
triangle cv co c0 =
    let c1 = next c0 in
    let c2 = next c1 in
    record {
      c0 = corner c0;
      c1 = corner c1;
      c2 = corner c2;
      v0 = vertex (vertex_at cv c0);
      v1 = vertex (vertex_at cv c1);
      v2 = vertex (vertex_at cv c2);
      o0 = corner (opposite_at co c0);
      o1 = corner (opposite_at co c1);
    }

-- The two faces at the edge that c1 names, which runs from v2 to v0. The face beyond it is c4, opposite c1, with c5 and c3.
--
--          v1
--         /c1\
--     o0 /    \ o2
--       /c2__c0\
--     v2        v0
--       \c3--c5/
--     o5 \    / o3
--         \c4/
--          v3
unfoldable pub around : List ℕ → List ℕ → ℕ → Around
around cv co c1 =
    let c2 = next c1 in
    let c0 = next c2 in
    let c4 = opposite_at co c1 in
    let c5 = next c4 in
    let c3 = next c5 in
    record {
      c0 = corner c0;
      c1 = corner c1;
      c2 = corner c2;
      c3 = corner c3;
      c4 = corner c4;
      c5 = corner c5;
      v0 = vertex (vertex_at cv c0);
      v1 = vertex (vertex_at cv c1);
      v2 = vertex (vertex_at cv c2);
      v3 = vertex (vertex_at cv c4);
      o0 = corner (opposite_at co c0);
      o2 = corner (opposite_at co c2);
      o3 = corner (opposite_at co c3);
      o5 = corner (opposite_at co c5);
    }

-- the six corners, and the four vertices, are slots of a list of length n
pub record CornersThere (n : ℕ) (p : Around) : Type 0 where
  pub c0 : p.c0.0 < n
  pub c1 : p.c1.0 < n
  pub c2 : p.c2.0 < n
  pub c3 : p.c3.0 < n
  pub c4 : p.c4.0 < n
  pub c5 : p.c5.0 < n

pub record VerticesThere (n : ℕ) (p : Around) : Type 0 where
  pub v0 : p.v0.0 < n
  pub v1 : p.v1.0 < n
  pub v2 : p.v2.0 < n
  pub v3 : p.v3.0 < n

-- the two faces at the edge of c are slots of both lists
pub record EdgeThere (cv co : List ℕ) (c : ℕ) : Type 0 where
  pub vertices : CornersThere (length cv) (around cv co c)
  pub opposites : CornersThere (length co) (around cv co c)

-- the edge of c has a face on each side, and both are slots
pub record InnerEdge (t : Table) (c : ℕ) : Type 0 where
  pub edge_lt_absent : c < absent
  pub beyond_lt_absent : opposite t c < absent
  pub faces : EdgeThere t.corner_vertex t.corner_opposite c

-- the counts leave numbers for two new faces and a new vertex
pub record HasRoom (t : Table) : Type 0 where
  pub corners : t.corners + 6 < absent
  pub vertices : t.vertices + 1 < absent

-- two new faces on the end: their six slots of one part
abbrev pub six : List ℕ → (n a b c d e f : ℕ) → List ℕ
six l n a b c d e f = three (three l n a b c) (n + 3) d e f
