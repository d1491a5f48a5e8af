-- Document 01, "Checks for a command, in order", and "Numbers handed back". Read only.
use Rattle.std.specs.Prelude.{ℕ, ◌/◌, not, eqb, ltb}
use Rattle.corner.specs.Corner.{absent, first_corner}
use Rattle.vertex.specs.declared.Point.{Point}
use Rattle.vertex.specs.Point.{finite_point}
use Rattle.table.specs.Slots.{mark_at}
use Rattle.table.specs.Table.{Table, corner_room, vertex_room, vertex, opposite}
use Rattle.edge_collapse.specs.EdgeCollapse.{affects_boundary, unsafe}
use Rattle.script_command.specs.declared.Edit.{Edit}
use Rattle.script_command.specs.declared.Edit.TheVariants.{Collapse, Flip, SplitEdge, SplitFace, Unknown}
use Rattle.script_command.specs.Checks.{first, when, targeted, room_for, corners_for}

abbrev pub corner_target : Table → ℕ → ℕ
corner_target t c = targeted (ltb c t.corners) (mark_at t.corner_mark c)

abbrev pub face_target : Table → ℕ → ℕ
face_target t f = targeted (ltb f (t.corners / 3)) (mark_at t.corner_mark (first_corner f))

-- 4 "point not finite"
abbrev pub not_finite : Point → ℕ
not_finite p = when (not (finite_point p)) 4

abbrev pub no_room : Table → ℕ → ℕ
no_room t n = room_for t.vertices (vertex_room t) t.corners (corner_room t) n

-- 11 "border", of a flip: "only for an edge without opposite"
abbrev pub no_opposite : Table → ℕ → ℕ
no_opposite t c = when (eqb (opposite t c) absent) 11

-- "12 if the two corners facing the edge have the same vertex"
abbrev pub same_wings : Table → ℕ → ℕ
same_wings t c = when (eqb (vertex t c) (vertex t (opposite t c))) 12

-- in the order of collapse: 9, 10, 4, 11, 12, 13
unfoldable pub collapse_answer : Table → ℕ → Point → ℕ
collapse_answer t c p =
    first (corner_target t c)
    (first (not_finite p)
    (first (when (affects_boundary t c) 11)
    (first (same_wings t c) (when (unsafe t c) 13))))

-- of flip: 9, 10, 11, 12
unfoldable pub flip_answer : Table → ℕ → ℕ
flip_answer t c = first (corner_target t c) (first (no_opposite t c) (same_wings t c))

-- of split edge and split face: 9, 10, 4, 5, 6
unfoldable pub split_edge_answer : Table → ℕ → Point → ℕ
split_edge_answer t c p = first (corner_target t c) (first (not_finite p) (no_room t (corners_for (opposite t c))))

unfoldable pub split_face_answer : Table → ℕ → Point → ℕ
split_face_answer t f p = first (face_target t f) (first (not_finite p) (no_room t 6))

-- of any other kind: 14
unfoldable pub answer : Table → Edit → ℕ
answer t (Collapse c p) = collapse_answer t c.0 p
answer t (Flip c) = flip_answer t c.0
answer t (SplitEdge c p) = split_edge_answer t c.0 p
answer t (SplitFace f p) = split_face_answer t f.0 p
answer t Unknown = 14
