-- Document 01, "Small meshes to compare": the marked answers, by computing the answers, of single commands and of whole runs. Assumes nothing.
use Prim.Native.Nat.{ℕ}
use mathlib.Core.Path.{◌≡◌, refl}
use mathlib.Core.List.{List, [], ◌∷◌}
use lib.Ieee.{of_bits}
use Rattle.corner.specs.Corner.{next, previous}
use Rattle.vertex.specs.declared.Point.{Point}
use Rattle.vertex.specs.Point.{point_of_bits}
use Rattle.table.specs.Slots.{nought}
use Rattle.table.specs.Table.{extended, shaped_by, live}
use Rattle.table.specs.Meshes.{mesh_a, mesh_b, mesh_t, float1, float2, float3}
use Rattle.ring.specs.Ring.{sweep, ring}
use Rattle.edit_plans.specs.Plans.{around}
use Rattle.edit_collapse.specs.Collapse.{winged, either, collapse_vertices, collapse_opposites, collapse_marks, collapse_corners, collapse_edge}
use Rattle.edge_collapse.specs.EdgeCollapse.{meets_border, neighbours, times_in, common_in, affects_boundary, unsafe}
use Rattle.script_command.specs.declared.Edit.TheVariants.{Collapse, Flip, SplitEdge, SplitFace}
use Rattle.script_command.specs.Checks.{first, targeted, room_for}
use Rattle.script_answers.specs.Answers.{collapse_answer, flip_answer, split_edge_answer, split_face_answer, answer}
use Rattle.script_command.specs.Decode.{decoded, command_at}
use Rattle.script_step.specs.Step.{effect, step}
use Rattle.checker_kinds.specs.Kinds.{test_at, rule_of, span, slot_of}
use Rattle.checker_rules.specs.Near.{beside, near}
use Rattle.checker_rules.specs.Tests.{counts_test, mark_test, face_test, vertex_test, differ_test, back_test, mates_test, opposite_test}
use Rattle.checker_rules.specs.Tests.{corner_test, fan_test, point_test, holds}
use Rattle.checker.specs.First.{first_from, first_bad}
use Rattle.checker.specs.Order.{first_of, clean, ruled, verdict_of}
use Rattle.script_command.specs.Checks.{fits}
use Rattle.script.specs.Commands.{progress, commands}
use Rattle.script.specs.Run.{whole, run}

-- the origin
abbrev origin : Point
origin = record { x = nought; y = nought; z = nought }

-- "B, flip 0: 11"
pub b_flip : answer mesh_b (Flip (record { 0 = 0 })) ≡ 11
unfolding answer flip_answer targeted first
b_flip = refl

-- "B, flip 1", "A, split edge 0" and "B, split edge 1" are done
pub b_flip_done : answer mesh_b (Flip (record { 0 = 1 })) ≡ 0
unfolding answer flip_answer targeted first
b_flip_done = refl

pub a_split_edge_done : answer (extended 3 1 mesh_a) (SplitEdge (record { 0 = 0 }) origin) ≡ 0
unfolding answer split_edge_answer targeted first room_for nought of_bits
a_split_edge_done = refl

pub b_split_edge_done : answer (extended 6 1 mesh_b) (SplitEdge (record { 0 = 1 }) origin) ≡ 0
unfolding answer split_edge_answer targeted first room_for nought of_bits
b_split_edge_done = refl

-- "B, collapse 1: 11"
pub b_collapse : answer mesh_b (Collapse (record { 0 = 1 }) origin) ≡ 11
unfolding answer collapse_answer targeted first affects_boundary meets_border sweep next previous nought of_bits
b_collapse = refl

-- "T, collapse 0" is done
pub t_collapse : answer mesh_t (Collapse (record { 0 = 0 }) origin) ≡ 0
unfolding answer collapse_answer targeted first affects_boundary meets_border unsafe neighbours times_in common_in sweep next previous nought of_bits
t_collapse = refl

-- "Then collapse 3: 12"
pub t_then : answer (step mesh_t (Collapse (record { 0 = 0 }) origin)) (Collapse (record { 0 = 3 }) origin) ≡ 12
unfolding step effect answer collapse_answer targeted first affects_boundary meets_border unsafe neighbours times_in common_in collapse_edge around collapse_vertices collapse_opposites collapse_marks collapse_corners winged either ring sweep next previous nought of_bits
t_then = refl

-- ---- the same as whole runs from lists of words: the check, the words decoded, one answer word to a command, the last word unused

abbrev b_script : List ℕ
b_script = 2 ∷ 0 ∷ 0 ∷ 0 ∷ 0 ∷ 1 ∷ 1 ∷ 0 ∷ 0 ∷ 0 ∷ []

pub b_run : run mesh_b b_script (99 ∷ 99 ∷ 99 ∷ []) ≡ whole 0 0 0 (progress (11 ∷ 11 ∷ 99 ∷ []) mesh_b)
unfolding run fits commands command_at decoded point_of_bits step effect answer collapse_answer flip_answer targeted first affects_boundary meets_border sweep verdict_of ruled clean first_of slot_of span rule_of test_at holds point_test fan_test corner_test opposite_test mates_test back_test differ_test vertex_test face_test mark_test counts_test near beside first_bad first_from float3 float2 float1 nought live shaped_by previous next of_bits
b_run = refl

abbrev t_script : List ℕ
t_script = 1 ∷ 0 ∷ 0 ∷ 0 ∷ 0 ∷ 1 ∷ 3 ∷ 0 ∷ 0 ∷ 0 ∷ []

pub t_run : (run mesh_t t_script (99 ∷ 99 ∷ 99 ∷ [])).progress.answers ≡ 0 ∷ 12 ∷ 99 ∷ []
unfolding run fits commands command_at decoded point_of_bits step effect answer collapse_answer targeted first affects_boundary meets_border unsafe neighbours times_in common_in collapse_edge around collapse_vertices collapse_opposites collapse_marks collapse_corners winged either ring sweep verdict_of ruled clean first_of slot_of span rule_of test_at holds point_test fan_test corner_test opposite_test mates_test back_test differ_test vertex_test face_test mark_test counts_test near beside first_bad first_from float3 float2 float1 nought live shaped_by previous next of_bits
t_run = refl

-- "A with room for 3 vertices, split face: 5. With 4 vertices and 8 corners: 6; with 9: done."
pub a_split_5 : answer mesh_a (SplitFace (record { 0 = 0 }) origin) ≡ 5
unfolding answer split_face_answer targeted first room_for nought of_bits
a_split_5 = refl

pub a_split_6 : answer (extended 5 1 mesh_a) (SplitFace (record { 0 = 0 }) origin) ≡ 6
unfolding answer split_face_answer targeted first room_for nought of_bits
a_split_6 = refl

pub a_split_done : answer (extended 6 1 mesh_a) (SplitFace (record { 0 = 0 }) origin) ≡ 0
unfolding answer split_face_answer targeted first room_for nought of_bits
a_split_done = refl
