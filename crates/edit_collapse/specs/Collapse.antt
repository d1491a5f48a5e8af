-- edit.rs, collapse_edge: "keeps next's vertex, moves it, and deletes previous's vertex and both faces". The kept vertex is v2, the deleted
-- one v0. In edit.rs these corners are c24 (c1), c25 (c2), c26 (c0), c9 (c4), c10 (c5), c11 (c3), the outer ones c28 (o0), c21 (o2),
-- c6 (o5), c13 (o3), and the vertices v7 (v1), v8 (v2), v9 (v0), v3.
--
--          v1                     v1
--         /c1\                    |
--     o0 /    \ o2             o0 | o2
--       /c2__c0\                  |
--     v2        v0    →           v2
--       \c3--c5/                  |
--     o5 \    / o3             o5 | o3        (o0 and o2, o5 and o3 become opposite)
--         \c4/                    |
--          v3                     v3
use Rattle.std.specs.Prelude.{ℕ, cond, List, eqb, set}
use Rattle.corner.specs.Corner.{absent, next, previous}
use Rattle.vertex.specs.declared.Point.{Point}
use Rattle.table.specs.Slots.{corner_at, with_pair, relabel, with_point}
use Rattle.table.specs.Table.{Table, table}
use Rattle.ring.specs.Ring.{ring}
use Rattle.edit_plans.specs.declared.Around.{Around}
use Rattle.edit_plans.specs.Plans.{around}

-- set_corner_for_wing_vertex: the corner before the left opposite or, without one, the corner after the right
unfoldable pub winged : List ℕ → (v left right : ℕ) → List ℕ
winged vc v left right =
    cond (eqb left absent) (cond (eqb right absent) vc (set vc v (next right))) (set vc v (previous left))

-- Option's `or`
unfoldable pub either : ℕ → ℕ → ℕ
either a b = cond (eqb a absent) b a

-- "in a collapse the deleted faces' corners at the deleted vertex also get the kept vertex's number": all of the deleted vertex's ring do
unfoldable pub collapse_vertices : Around → (n : ℕ) → (co vc cv : List ℕ) → List ℕ
collapse_vertices p n co vc cv = relabel (ring co n (corner_at vc p.v0.0)) p.v2.0 cv

unfoldable pub collapse_opposites : Around → List ℕ → List ℕ
collapse_opposites p co = with_pair (with_pair co p.o0.0 p.o2.0) p.o5.0 p.o3.0

unfoldable pub collapse_marks : Around → List ℕ → List ℕ
collapse_marks p cm =
    let l1 : List ℕ = set (set (set cm p.c4.0 1) p.c5.0 1) p.c3.0 1 in
    set (set (set l1 p.c1.0 1) p.c2.0 1) p.c0.0 1

unfoldable pub collapse_corners : Around → List ℕ → List ℕ
collapse_corners p vc =
    let l1 : List ℕ = winged vc p.v3.0 p.o3.0 p.o5.0 in
    let l2 : List ℕ = winged l1 p.v1.0 p.o0.0 p.o2.0 in
    winged l2 p.v2.0 (either p.o5.0 p.o2.0) (either p.o0.0 p.o3.0)

abbrev pub collapsed : Around → Table → Point → Table
collapsed p t at =
    table
    (collapse_vertices p t.corners t.corner_opposite t.vertex_corner t.corner_vertex)
    (collapse_opposites p t.corner_opposite)
    (collapse_marks p t.corner_mark)
    (collapse_corners p t.vertex_corner)
    (set t.vertex_mark p.v0.0 1)
    (with_point t.vertex_point p.v2.0 at)
    t.vertices
    t.corners

unfoldable pub collapse_edge : Table → ℕ → Point → Table
collapse_edge t c at = collapsed (around t.corner_vertex t.corner_opposite c) t at
