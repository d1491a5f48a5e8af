-- Document 01, "Small meshes to compare": the marked face split, slot by slot. Assumes nothing.
use mathlib.Core.Path.{◌≡◌, refl}
use mathlib.Core.List.{[], ◌∷◌}
use lib.Ieee.{Float}
use Rattle.corner.specs.Corner.{absent, next}
use Rattle.table.specs.Slots.{nought}
use Rattle.table.specs.Table.{table, extended}
use Rattle.table.specs.Meshes.{mesh_a, float1, float2}
use Rattle.edit_plans.specs.Plans.{triangle}
use Rattle.edit_split_face.specs.SplitFace.{face_vertices, face_opposites, face_corners, split_face}

-- "A, split face 0: corners 0 1 3 1 2 3 2 0 3; pairs 0-4, 3-7, 1-6; vertex corners 0, 1, 4, 2."
a_split_face : (x y z : Float) → split_face (extended 6 1 mesh_a) 0 (record { x = x; y = y; z = z })
    ≡ table
    (0 ∷ 1 ∷ 3 ∷ 1 ∷ 2 ∷ 3 ∷ 2 ∷ 0 ∷ 3 ∷ [])
    (4 ∷ 6 ∷ absent ∷ 7 ∷ 0 ∷ absent ∷ 1 ∷ 3 ∷ absent ∷ [])
    (0 ∷ 0 ∷ 0 ∷ 0 ∷ 0 ∷ 0 ∷ 0 ∷ 0 ∷ 0 ∷ [])
    (0 ∷ 1 ∷ 4 ∷ 2 ∷ [])
    (0 ∷ 0 ∷ 0 ∷ 0 ∷ [])
    (nought ∷ nought ∷ nought ∷ float1 ∷ nought ∷ nought ∷ float2 ∷ nought ∷ nought ∷ x ∷ y ∷ z ∷ [])
    4
    9
unfolding split_face triangle face_vertices face_opposites face_corners next
a_split_face x y z = refl
