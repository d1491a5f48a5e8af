-- edit.rs, split_edge: "the old vertex moves to the new point and the new vertex takes the old place, with all its old corners but the two
-- on the split edge" (one, for a border edge). The moved vertex is v2, the new one u; its old corners are the ring of c2, taken before the new
-- faces are put on the end, where n corners are used.
use Rattle.std.specs.Prelude.{ℕ, ◌+◌, cond, List, [], ◌∷◌, eqb, set, Float}
use Rattle.corner.specs.Corner.{absent, previous}
use Rattle.vertex.specs.declared.Point.{Point}
use Rattle.table.specs.Slots.{opposite_at, point_at, with_pair, three, relabel, with_point}
use Rattle.table.specs.Table.{Table, table, opposite}
use Rattle.ring.specs.Ring.{ring}
use Rattle.edit_plans.specs.declared.Around.{Around}
use Rattle.edit_plans.specs.declared.Triangle.{Triangle}
use Rattle.edit_plans.specs.Plans.{around, triangle, six}

-- a list without the corner a
abbrev pub without : ℕ → List ℕ → List ℕ
without a [] = []
without a (c ∷ cs) = cond (eqb c a) (without a cs) (c ∷ without a cs)

-- the moved vertex at the new point, the new vertex at the old place
unfoldable pub split_points : (v u : ℕ) → Point → List Float → List Float
split_points v u at vp = with_point (with_point vp v at) u (point_at vp v)

unfoldable pub split_corners : (v u c d : ℕ) → List ℕ → List ℕ
split_corners v u c d vc = set (set vc v c) u d

-- ---- split_inner_edge: new faces c6 c7 c8 and c9 c10 c11
--
--          v1                       v1
--         /c1\                    /c6 | c1\
--        /    \                  /    |    \
--       /c2__c0\                /c7_c8|c2_c0\
--     v2        v0    →        u     v2     v0
--       \c3--c5/                \c9c11|c3_c5/
--        \    /                  \    |    /
--         \c4/                    \c10| c4/
--          v3                       v3

unfoldable pub inner_vertices : Around → (u n : ℕ) → List ℕ → List ℕ → List ℕ
inner_vertices p u n co cv =
    let kept : List ℕ = without p.c3.0 (without p.c2.0 (ring co n p.c2.0)) in
    relabel kept u (six cv n p.v1.0 u p.v2.0 u p.v3.0 p.v2.0)

-- "in an inner edge split where the moved vertex has only the two faces of that edge and no border, the Rust's second read must see the
-- first write": the opposite of c5 is read after that of c0 has been rewritten
unfoldable pub inner_opposites : Around → (n : ℕ) → List ℕ → List ℕ
inner_opposites p n co =
    let l1 : List ℕ = with_pair (six co n absent absent absent absent absent absent) p.o0.0 (n + 2) in
    let l2 : List ℕ = with_pair l1 (opposite_at l1 p.c5.0) (n + 5) in
    let l3 : List ℕ = with_pair l2 p.c0.0 (n + 1) in
    let l4 : List ℕ = with_pair l3 p.c5.0 (n + 3) in
    with_pair l4 n (n + 4)

abbrev pub inner_split : Around → Table → Point → Table
inner_split p t at =
    let n = t.corners in
    let u = t.vertices in
    table
    (inner_vertices p u n t.corner_opposite t.corner_vertex)
    (inner_opposites p n t.corner_opposite)
    (six t.corner_mark n 0 0 0 0 0 0)
    (split_corners p.v2.0 u p.c2.0 (n + 1) t.vertex_corner)
    (set t.vertex_mark u 0)
    (split_points p.v2.0 u at t.vertex_point)
    (u + 1)
    (n + 6)

unfoldable pub split_inner_edge : Table → ℕ → Point → Table
split_inner_edge t c at = inner_split (around t.corner_vertex t.corner_opposite c) t at

-- ---- split_boundary_edge: a new face c3 c4 c5. The face is read from c0, the corner before c1
--
--          v1                       v1
--         /c1\                    /c3 | c1\
--        /    \       →          /    |    \
--       /c2__c0\                /c4_c5|c2_c0\
--     v2        v0             u     v2     v0

unfoldable pub boundary_vertices : Triangle → (u n : ℕ) → List ℕ → List ℕ → List ℕ
boundary_vertices p u n co cv =
    let kept : List ℕ = without p.c2.0 (ring co n p.c2.0) in
    relabel kept u (three cv n p.v1.0 u p.v2.0)

unfoldable pub boundary_opposites : Triangle → (n : ℕ) → List ℕ → List ℕ
boundary_opposites p n co =
    let l1 : List ℕ = with_pair (three co n absent absent absent) p.o0.0 (n + 2) in
    with_pair l1 p.c0.0 (n + 1)

abbrev pub boundary_split : Triangle → Table → Point → Table
boundary_split p t at =
    let n = t.corners in
    let u = t.vertices in
    table
    (boundary_vertices p u n t.corner_opposite t.corner_vertex)
    (boundary_opposites p n t.corner_opposite)
    (three t.corner_mark n 0 0 0)
    (split_corners p.v2.0 u p.c2.0 (n + 1) t.vertex_corner)
    (set t.vertex_mark u 0)
    (split_points p.v2.0 u at t.vertex_point)
    (u + 1)
    (n + 3)

unfoldable pub split_boundary_edge : Table → ℕ → Point → Table
split_boundary_edge t c at = boundary_split (triangle t.corner_vertex t.corner_opposite (previous c)) t at

-- ---- split_edge

unfoldable pub split_edge : Table → ℕ → Point → Table
split_edge t c at = cond (eqb (opposite t c) absent) (split_boundary_edge t c at) (split_inner_edge t c at)
