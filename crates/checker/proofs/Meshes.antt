-- Document 01's meshes A, B and T are well-formed, and for each rule a copy of B with that rule broken is not: all by computing the
-- verdict. Assumes nothing.
use mathlib.Core.Path.{◌≡◌, refl, ap}
use mathlib.Core.List.{[], ◌∷◌}
use lib.Ieee.{of_bits, binary32}
use lib.ListN.{set}
use Rattle.corner.specs.Corner.{absent, next, previous}
use Rattle.table.specs.Table.{Table, shaped_by, live, Shaped}
use Rattle.table.specs.Table.{with_corner_vertex, with_corner_opposite, with_corner_mark, with_vertex_corner, with_vertex_point, with_counts}
use Rattle.table.specs.Rules.{WellFormed}
use Rattle.table.specs.Slots.{nought}
use Rattle.table.specs.Meshes.{float1, float2, float3, mesh_a, mesh_b, mesh_t}
use Rattle.checker_kinds.specs.Kinds.{test_at, rule_of, span, slot_of}
use Rattle.checker_rules.specs.Near.{beside, near}
use Rattle.checker_rules.specs.Tests.{counts_test, mark_test, face_test, vertex_test, differ_test, back_test, mates_test, opposite_test}
use Rattle.checker_rules.specs.Tests.{corner_test, fan_test, point_test, holds}
use Rattle.checker.specs.First.{first_from, first_bad}
use Rattle.checker.specs.Order.{first_of, clean, passed, broken, ruled, verdict_of}
use Rattle.checker.specs.Verdict.{Verdict}
use Rattle.checker.proofs.Judge.{verdict_sound, seven_refutes}

-- B with a count that isn't a multiple of 3
abbrev pub broken_r1 : Table
broken_r1 = with_counts mesh_b 4 5

-- the mark of corner 3 is 2
abbrev pub broken_r2 : Table
broken_r2 = with_corner_mark mesh_b (set mesh_b.corner_mark 3 2)

-- corner 5 at a vertex past the count
abbrev pub broken_r3 : Table
broken_r3 = with_corner_vertex mesh_b (set mesh_b.corner_vertex 5 4)

-- corner 5 without its opposite, corner 1, which still has it
abbrev pub broken_r4 : Table
broken_r4 = with_corner_opposite mesh_b (set mesh_b.corner_opposite 5 absent)

-- vertex 1 with a corner of vertex 0
abbrev pub broken_r5 : Table
broken_r5 = with_vertex_corner mesh_b (set mesh_b.vertex_corner 1 0)

-- the pair 1-5 cut on both sides: corner 0 is not in the fan of vertex 0's corner, 3
abbrev pub broken_fan : Table
broken_fan = with_corner_opposite mesh_b (absent ∷ absent ∷ absent ∷ absent ∷ absent ∷ absent ∷ [])

-- the second number of vertex 3's point is infinite
abbrev pub broken_r6 : Table
broken_r6 = with_vertex_point mesh_b (set mesh_b.vertex_point 10 (of_bits binary32 0x7f80_0000))

pub record Verdicts : Type 0 where
  pub a : verdict_of mesh_a ≡ passed
  pub b : verdict_of mesh_b ≡ passed
  pub t : verdict_of mesh_t ≡ passed
  pub r1 : verdict_of broken_r1 ≡ broken 1 0
  pub r2 : verdict_of broken_r2 ≡ broken 2 3
  pub r3 : verdict_of broken_r3 ≡ broken 3 5
  pub r4 : verdict_of broken_r4 ≡ broken 4 1
  pub r5 : verdict_of broken_r5 ≡ broken 5 1
  pub fan : verdict_of broken_fan ≡ broken 5 0
  pub r6 : verdict_of broken_r6 ≡ broken 6 3

pub verdicts : Verdicts
unfolding verdict_of ruled clean first_of slot_of span rule_of test_at holds point_test fan_test corner_test opposite_test mates_test back_test differ_test vertex_test face_test mark_test counts_test near beside first_bad first_from float3 float2 float1 nought live shaped_by previous next of_bits
verdicts = record { a = refl; b = refl; t = refl; r1 = refl; r2 = refl; r3 = refl; r4 = refl; r5 = refl; fan = refl; r6 = refl }

answer : {v w : Verdict} → v ≡ w → v.answer ≡ w.answer
answer e = ap (λ (v : Verdict). v.answer) e

pub good_A : Shaped mesh_a × WellFormed mesh_a
good_A = verdict_sound mesh_a (answer verdicts.a)

pub good_B : Shaped mesh_b × WellFormed mesh_b
good_B = verdict_sound mesh_b (answer verdicts.b)

pub good_T : Shaped mesh_t × WellFormed mesh_t
good_T = verdict_sound mesh_t (answer verdicts.t)

pub not_R1 : WellFormed broken_r1 → ⊥
not_R1 = seven_refutes broken_r1 (answer verdicts.r1)

pub not_R2 : WellFormed broken_r2 → ⊥
not_R2 = seven_refutes broken_r2 (answer verdicts.r2)

pub not_R3 : WellFormed broken_r3 → ⊥
not_R3 = seven_refutes broken_r3 (answer verdicts.r3)

pub not_R4 : WellFormed broken_r4 → ⊥
not_R4 = seven_refutes broken_r4 (answer verdicts.r4)

pub not_R5 : WellFormed broken_r5 → ⊥
not_R5 = seven_refutes broken_r5 (answer verdicts.r5)

pub not_fan : WellFormed broken_fan → ⊥
not_fan = seven_refutes broken_fan (answer verdicts.fan)

pub not_R6 : WellFormed broken_r6 → ⊥
not_R6 = seven_refutes broken_r6 (answer verdicts.r6)
