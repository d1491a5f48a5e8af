-- edit.rs, flip_edge: every read before the first write ("Easy to get wrong" 1), then the writes of each part in the Rust's order.
--
--          v1                    v1
--         /c1\                  /| \
--        /    \               c0 |  c5
--       /c2__c0\              /  |   \
--     v2        v0    →     v2 c1|c4  v0
--       \c3--c5/              \  |   /
--        \    /               c2 |  c3
--         \c4/                  \| /
--          v3                    v3
use Rattle.std.specs.Prelude.{ℕ, List, set}
use Rattle.table.specs.Slots.{with_pair}
use Rattle.table.specs.Table.{Table, with_corner_vertex, with_corner_opposite, with_vertex_corner}
use Rattle.edit_plans.specs.declared.Around.{Around}
use Rattle.edit_plans.specs.Plans.{around}

unfoldable pub flip_vertices : Around → List ℕ → List ℕ
flip_vertices p cv =
    let l1 : List ℕ = set cv p.c0.0 p.v1.0 in
    let l2 : List ℕ = set l1 p.c1.0 p.v2.0 in
    let l3 : List ℕ = set l2 p.c2.0 p.v3.0 in
    let l4 : List ℕ = set l3 p.c3.0 p.v3.0 in
    let l5 : List ℕ = set l4 p.c4.0 p.v0.0 in
    set l5 p.c5.0 p.v1.0

unfoldable pub flip_opposites : Around → List ℕ → List ℕ
flip_opposites p co =
    let l1 : List ℕ = with_pair co p.c0.0 p.o5.0 in
    let l2 : List ℕ = with_pair l1 p.c1.0 p.c4.0 in
    let l3 : List ℕ = with_pair l2 p.c2.0 p.o0.0 in
    let l4 : List ℕ = with_pair l3 p.c3.0 p.o2.0 in
    with_pair l4 p.c5.0 p.o3.0

unfoldable pub flip_corners : Around → List ℕ → List ℕ
flip_corners p vc =
    let l1 : List ℕ = set vc p.v0.0 p.c4.0 in
    let l2 : List ℕ = set l1 p.v1.0 p.c0.0 in
    let l3 : List ℕ = set l2 p.v2.0 p.c1.0 in
    set l3 p.v3.0 p.c2.0

abbrev pub flipped : Around → Table → Table
flipped p t =
    with_corner_vertex
    (with_corner_opposite (with_vertex_corner t (flip_corners p t.vertex_corner)) (flip_opposites p t.corner_opposite))
    (flip_vertices p t.corner_vertex)

unfoldable pub flip_edge : Table → ℕ → Table
flip_edge t c = flipped (around t.corner_vertex t.corner_opposite c) t
