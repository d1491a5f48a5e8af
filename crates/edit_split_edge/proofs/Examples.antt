-- Document 01, "Small meshes to compare": the marked edge splits, slot by slot. Assumes nothing.
use mathlib.Core.Path.{◌≡◌, refl}
use mathlib.Core.List.{[], ◌∷◌}
use lib.Ieee.{Float}
use Rattle.corner.specs.Corner.{absent, next, previous}
use Rattle.vertex.specs.declared.Point.{Point}
use Rattle.table.specs.Slots.{nought}
use Rattle.table.specs.Table.{Table, table, extended}
use Rattle.table.specs.Meshes.{mesh_a, mesh_b, float1, float2, float3}
use Rattle.ring.specs.Ring.{sweep, ring}
use Rattle.edit_plans.specs.Plans.{triangle, around}
use Rattle.edit_split_edge.specs.SplitEdge.{split_points, split_corners, inner_vertices, inner_opposites, split_inner_edge, boundary_vertices, boundary_opposites, split_boundary_edge, split_edge}

-- two faces 0 1 2 and 0 2 1 back to back: pairs 0-3, 1-5, 2-4
abbrev pillow : Table
pillow =
    table
    (0 ∷ 1 ∷ 2 ∷ 0 ∷ 2 ∷ 1 ∷ [])
    (3 ∷ 5 ∷ 4 ∷ 0 ∷ 2 ∷ 1 ∷ [])
    (0 ∷ 0 ∷ 0 ∷ 0 ∷ 0 ∷ 0 ∷ [])
    (3 ∷ 5 ∷ 4 ∷ [])
    (0 ∷ 0 ∷ 0 ∷ [])
    (nought ∷ nought ∷ nought ∷ float1 ∷ nought ∷ nought ∷ float2 ∷ nought ∷ nought ∷ [])
    3
    6

-- the point of an edit
module _ (x y z : Float) where
  abbrev at : Point
  at = record { x = x; y = y; z = z }

  -- "A, split edge 0: corners 0 1 2 0 3 1, pair 2-4; vertex 3 has the old place of vertex 1."
  a_split_edge : split_edge (extended 3 1 mesh_a) 0 at
      ≡ table
      (0 ∷ 1 ∷ 2 ∷ 0 ∷ 3 ∷ 1 ∷ [])
      (absent ∷ absent ∷ 4 ∷ absent ∷ 2 ∷ absent ∷ [])
      (0 ∷ 0 ∷ 0 ∷ 0 ∷ 0 ∷ 0 ∷ [])
      (0 ∷ 1 ∷ 2 ∷ 4 ∷ [])
      (0 ∷ 0 ∷ 0 ∷ 0 ∷ [])
      (nought ∷ nought ∷ nought ∷ x ∷ y ∷ z ∷ float2 ∷ nought ∷ nought ∷ float1 ∷ nought ∷ nought ∷ [])
      4
      6
  unfolding split_edge split_boundary_edge triangle boundary_vertices boundary_opposites split_corners split_points ring sweep next previous
  a_split_edge = refl

  -- "B, split edge 1: corners 0 1 2 0 2 3 1 4 2 4 3 2; pairs 1-5, 0-7, 3-9, 6-10; vertex corners 3, 1, 2, 5, 7."
  b_split_edge : split_edge (extended 6 1 mesh_b) 1 at
      ≡ table
      (0 ∷ 1 ∷ 2 ∷ 0 ∷ 2 ∷ 3 ∷ 1 ∷ 4 ∷ 2 ∷ 4 ∷ 3 ∷ 2 ∷ [])
      (7 ∷ 5 ∷ absent ∷ 9 ∷ absent ∷ 1 ∷ 10 ∷ 0 ∷ absent ∷ 3 ∷ 6 ∷ absent ∷ [])
      (0 ∷ 0 ∷ 0 ∷ 0 ∷ 0 ∷ 0 ∷ 0 ∷ 0 ∷ 0 ∷ 0 ∷ 0 ∷ 0 ∷ [])
      (3 ∷ 1 ∷ 2 ∷ 5 ∷ 7 ∷ [])
      (0 ∷ 0 ∷ 0 ∷ 0 ∷ 0 ∷ [])
      (nought ∷ nought ∷ nought ∷ float1 ∷ nought ∷ nought ∷ x ∷ y ∷ z ∷ float3 ∷ nought ∷ nought ∷ float2 ∷ nought ∷ nought ∷ [])
      5
      12
  unfolding split_edge split_inner_edge around inner_vertices inner_opposites split_corners split_points ring sweep next previous
  b_split_edge = refl

  -- "in an inner edge split where the moved vertex has only the two faces of that edge and no border, the Rust's second read must see the
  -- first write": vertex 1 moves, and the opposite of corner 4 is 8 by then. Pairs 0-3, 1-5, 2-7, 4-9, 6-10, 8-11
  pillow_split_edge : split_edge (extended 6 1 pillow) 0 at
      ≡ table
      (0 ∷ 1 ∷ 2 ∷ 0 ∷ 2 ∷ 1 ∷ 0 ∷ 3 ∷ 1 ∷ 3 ∷ 0 ∷ 1 ∷ [])
      (3 ∷ 5 ∷ 7 ∷ 0 ∷ 9 ∷ 1 ∷ 10 ∷ 2 ∷ 11 ∷ 4 ∷ 6 ∷ 8 ∷ [])
      (0 ∷ 0 ∷ 0 ∷ 0 ∷ 0 ∷ 0 ∷ 0 ∷ 0 ∷ 0 ∷ 0 ∷ 0 ∷ 0 ∷ [])
      (3 ∷ 1 ∷ 4 ∷ 7 ∷ [])
      (0 ∷ 0 ∷ 0 ∷ 0 ∷ [])
      (nought ∷ nought ∷ nought ∷ x ∷ y ∷ z ∷ float2 ∷ nought ∷ nought ∷ float1 ∷ nought ∷ nought ∷ [])
      4
      12
  unfolding split_edge split_inner_edge around inner_vertices inner_opposites split_corners split_points ring sweep next previous
  pillow_split_edge = refl
