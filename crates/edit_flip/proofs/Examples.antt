-- Document 01, "Small meshes to compare": the marked flip, slot by slot. Assumes nothing.
use mathlib.Core.Path.{◌≡◌, refl}
use mathlib.Core.List.{[], ◌∷◌}
use Rattle.corner.specs.Corner.{absent, next}
use Rattle.table.specs.Table.{table}
use Rattle.table.specs.Meshes.{mesh_b}
use Rattle.edit_plans.specs.Plans.{around}
use Rattle.edit_flip.specs.Flip.{flip_vertices, flip_opposites, flip_corners, flip_edge}

-- "B, flip 1: corners 1 2 3 1 3 0, pair 1-5, vertex corners 5, 0, 1, 2."
b_flip : flip_edge mesh_b 1
    ≡ table
    (1 ∷ 2 ∷ 3 ∷ 1 ∷ 3 ∷ 0 ∷ [])
    (absent ∷ 5 ∷ absent ∷ absent ∷ absent ∷ 1 ∷ [])
    (0 ∷ 0 ∷ 0 ∷ 0 ∷ 0 ∷ 0 ∷ [])
    (5 ∷ 0 ∷ 1 ∷ 2 ∷ [])
    (0 ∷ 0 ∷ 0 ∷ 0 ∷ [])
    mesh_b.vertex_point
    4
    6
unfolding flip_edge around flip_vertices flip_opposites flip_corners next
b_flip = refl
