-- edit.rs, split_face: a new vertex u in the face, two new faces c3 c4 c5 and c6 c7 c8 on the end, which stand at n.
--
--            v1                       v1
--           /c1\                    /c3|c1\
--          /    \                  /   |   \
--         /      \      →         /    u    \        at u: c5 on the left, c2 on the right, c8 below
--        /c2____c0\              /c4 /   \ c0\
--       v2        v0            / /c6___c7\ \
--                              v2           v0
use Rattle.std.specs.Prelude.{ℕ, ◌+◌, List, set}
use Rattle.corner.specs.Corner.{absent, first_corner}
use Rattle.vertex.specs.declared.Point.{Point}
use Rattle.table.specs.Slots.{with_pair, with_point}
use Rattle.table.specs.Table.{Table, table}
use Rattle.edit_plans.specs.declared.Triangle.{Triangle}
use Rattle.edit_plans.specs.Plans.{triangle, six}

unfoldable pub face_vertices : Triangle → (u n : ℕ) → List ℕ → List ℕ
face_vertices p u n cv = set (six cv n p.v1.0 p.v2.0 u p.v2.0 p.v0.0 u) p.c2.0 u

unfoldable pub face_opposites : Triangle → (n : ℕ) → List ℕ → List ℕ
face_opposites p n co =
    let l1 : List ℕ = with_pair (six co n absent absent absent absent absent absent) p.c0.0 (n + 1) in
    let l2 : List ℕ = with_pair l1 n (n + 4) in
    let l3 : List ℕ = with_pair l2 (n + 3) p.c1.0 in
    let l4 : List ℕ = with_pair l3 (n + 5) p.o1.0 in
    with_pair l4 (n + 2) p.o0.0

unfoldable pub face_corners : Triangle → (u n : ℕ) → List ℕ → List ℕ
face_corners p u n vc = set (set vc u p.c2.0) p.v2.0 (n + 1)

abbrev pub face_split : Triangle → Table → Point → Table
face_split p t at =
    let n = t.corners in
    let u = t.vertices in
    table
    (face_vertices p u n t.corner_vertex)
    (face_opposites p n t.corner_opposite)
    (six t.corner_mark n 0 0 0 0 0 0)
    (face_corners p u n t.vertex_corner)
    (set t.vertex_mark u 0)
    (with_point t.vertex_point u at)
    (u + 1)
    (n + 6)

unfoldable pub split_face : Table → ℕ → Point → Table
split_face t f at = face_split (triangle t.corner_vertex t.corner_opposite (first_corner f)) t at
