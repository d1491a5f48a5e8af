-- What a ring call answers, counts and leaves. Document 01, "Ring lists and the walker": "Order: 1, 9, 10, 15, 16."
use Rattle.std.specs.Prelude.{ℕ, min, List, cond, ltb, eqb}
use Rattle.table.specs.Slots.{mark_at}
use Rattle.table.specs.Table.{Table, corner_room, vertex_room, shaped, corner}
use Rattle.traversal_visits.specs.Walk.{Walk, walk}
use Rattle.traversal_lists.specs.Outcome.{RingOutcome, refused_ring, walked}
use Rattle.traversal_lists.specs.declared.Kind.{Kind}

-- "A slot is used if its number is below both the count and the room."
abbrev pub used_corners : Table → ℕ
used_corners t = min t.corners (corner_room t)

abbrev pub used_vertices : Table → ℕ
used_vertices t = min t.vertices (vertex_room t)

-- the walk about v begins at its corner
abbrev pub walk_of : Table → ℕ → Walk
walk_of t v = walk t.corner_opposite t.corner_mark (used_corners t) (corner t v)

unfoldable pub ring_of : Kind → ℕ → Table → List ℕ → RingOutcome
ring_of kind v t list =
    cond (shaped t)
    (cond (ltb v (used_vertices t))
    (cond (eqb (mark_at t.vertex_mark v) 0) (walked kind t.corner_vertex (walk_of t v) list) (refused_ring 10 list))
    (refused_ring 9 list))
    (refused_ring 1 list)
