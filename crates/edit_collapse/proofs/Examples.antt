-- Document 01, "Small meshes to compare": the marked collapse, slot by slot. Assumes nothing.
use mathlib.Core.Path.{◌≡◌, refl}
use mathlib.Core.List.{[], ◌∷◌}
use lib.Ieee.{Float}
use Rattle.corner.specs.Corner.{next, previous}
use Rattle.table.specs.Slots.{nought}
use Rattle.table.specs.Table.{table}
use Rattle.table.specs.Meshes.{mesh_t, float2, float3}
use Rattle.ring.specs.Ring.{sweep, ring}
use Rattle.edit_plans.specs.Plans.{around}
use Rattle.edit_collapse.specs.Collapse.{winged, either, collapse_vertices, collapse_opposites, collapse_marks, collapse_corners, collapse_edge}

-- "T, collapse 0: faces 0 and 3 and vertex 2 deleted; deleted corners 2 and 11 hold vertex 1; live corners 3 to 8 are 0 1 3 0 3 1; pairs
-- 3-6, 4-8, 5-7; corners of vertices 0, 1, 3 are 6, 8, 5."
t_collapse : (x y z : Float) → collapse_edge mesh_t 0 (record { x = x; y = y; z = z })
    ≡ table
    (0 ∷ 1 ∷ 1 ∷ 0 ∷ 1 ∷ 3 ∷ 0 ∷ 3 ∷ 1 ∷ 1 ∷ 3 ∷ 1 ∷ [])
    (10 ∷ 5 ∷ 7 ∷ 6 ∷ 8 ∷ 7 ∷ 3 ∷ 5 ∷ 4 ∷ 3 ∷ 0 ∷ 6 ∷ [])
    (1 ∷ 1 ∷ 1 ∷ 0 ∷ 0 ∷ 0 ∷ 0 ∷ 0 ∷ 0 ∷ 1 ∷ 1 ∷ 1 ∷ [])
    (6 ∷ 8 ∷ 11 ∷ 5 ∷ [])
    (0 ∷ 0 ∷ 1 ∷ 0 ∷ [])
    (nought ∷ nought ∷ nought ∷ x ∷ y ∷ z ∷ float2 ∷ nought ∷ nought ∷ float3 ∷ nought ∷ nought ∷ [])
    4
    12
unfolding collapse_edge around collapse_vertices collapse_opposites collapse_marks collapse_corners winged either ring sweep next previous
t_collapse x y z = refl
