-- Document 01, "Small meshes to compare": A, B and T in tight rooms. Vertex v stands at (v, 0, 0).
use Rattle.std.specs.Prelude.{[], ◌∷◌, Float}
use Rattle.std.specs.Float.Ieee.{of_bits}
use Rattle.std.specs.Float.{binary32}
use Rattle.corner.specs.Corner.{absent}
use Rattle.table.specs.Slots.{nought}
use Rattle.table.specs.Table.{Table, table}

unfoldable pub float1 : Float
float1 = of_bits binary32 0x3f80_0000

unfoldable pub float2 : Float
float2 = of_bits binary32 0x4000_0000

unfoldable pub float3 : Float
float3 = of_bits binary32 0x4040_0000

-- "A: points 0 to 2, face 0 1 2. Corners 0 1 2, no pairs."
abbrev pub mesh_a : Table
mesh_a =
    table
    (0 ∷ 1 ∷ 2 ∷ [])
    (absent ∷ absent ∷ absent ∷ [])
    (0 ∷ 0 ∷ 0 ∷ [])
    (0 ∷ 1 ∷ 2 ∷ [])
    (0 ∷ 0 ∷ 0 ∷ [])
    (nought ∷ nought ∷ nought ∷ float1 ∷ nought ∷ nought ∷ float2 ∷ nought ∷ nought ∷ [])
    3
    3

-- "B: faces 0 1 2, 0 2 3. Pair 1-5. Vertex corners 3, 1, 4, 5."
abbrev pub mesh_b : Table
mesh_b =
    table
    (0 ∷ 1 ∷ 2 ∷ 0 ∷ 2 ∷ 3 ∷ [])
    (absent ∷ 5 ∷ absent ∷ absent ∷ absent ∷ 1 ∷ [])
    (0 ∷ 0 ∷ 0 ∷ 0 ∷ 0 ∷ 0 ∷ [])
    (3 ∷ 1 ∷ 4 ∷ 5 ∷ [])
    (0 ∷ 0 ∷ 0 ∷ 0 ∷ [])
    (nought ∷ nought ∷ nought ∷ float1 ∷ nought ∷ nought ∷ float2 ∷ nought ∷ nought ∷ float3 ∷ nought ∷ nought ∷ [])
    4
    6

-- "T: faces 0 1 2, 0 2 3, 0 3 1, 1 3 2. Pairs 0-10, 1-5, 2-7, 3-9, 4-8, 6-11."
abbrev pub mesh_t : Table
mesh_t =
    table
    (0 ∷ 1 ∷ 2 ∷ 0 ∷ 2 ∷ 3 ∷ 0 ∷ 3 ∷ 1 ∷ 1 ∷ 3 ∷ 2 ∷ [])
    (10 ∷ 5 ∷ 7 ∷ 9 ∷ 8 ∷ 1 ∷ 11 ∷ 2 ∷ 4 ∷ 3 ∷ 0 ∷ 6 ∷ [])
    (0 ∷ 0 ∷ 0 ∷ 0 ∷ 0 ∷ 0 ∷ 0 ∷ 0 ∷ 0 ∷ 0 ∷ 0 ∷ 0 ∷ [])
    (6 ∷ 9 ∷ 11 ∷ 10 ∷ [])
    (0 ∷ 0 ∷ 0 ∷ 0 ∷ [])
    (nought ∷ nought ∷ nought ∷ float1 ∷ nought ∷ nought ∷ float2 ∷ nought ∷ nought ∷ float3 ∷ nought ∷ nought ∷ [])
    4
    12
