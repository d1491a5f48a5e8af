-- The marked small meshes of document 01, built: every slot, by computation. Assumes nothing.
use mathlib.Core.Path.{◌≡◌, refl}
use mathlib.Core.List.{List, [], ◌∷◌}
use lib.Ieee.{Float, nan, of_bits}
use Rattle.corner.specs.Corner.{absent, next, previous}
use Rattle.table.specs.Slots.{nought}
use Rattle.table.specs.Table.{Table, table, blank, shaped_by}
use Rattle.table.specs.Meshes.{float1, float2, float3, mesh_a, mesh_b, mesh_t}
use Rattle.ring.specs.Ring.{sweep, ring}
use Rattle.builder_build.specs.Build.{BuildOutcome, built, refused_build, laid, edge_at, find_edge, grow, face, faces, give, outside, corners, vertices, isolated, finish, build}

-- vertex v at (v, 0, 0)
abbrev three_points : List Float
three_points = nought ∷ nought ∷ nought ∷ float1 ∷ nought ∷ nought ∷ float2 ∷ nought ∷ nought ∷ []

abbrev four_points : List Float
four_points = nought ∷ nought ∷ nought ∷ float1 ∷ nought ∷ nought ∷ float2 ∷ nought ∷ nought ∷ float3 ∷ nought ∷ nought ∷ []

-- nothing skipped
abbrev made : Table → BuildOutcome
made t = built 0 0 t

-- "A: points 0 to 2, face 0 1 2."
pub built_A : build (blank 3 3) three_points (0 ∷ 1 ∷ 2 ∷ []) ≡ made mesh_a
unfolding build finish isolated laid ring vertices corners outside give faces face grow find_edge edge_at next previous sweep shaped_by nought float1 float2 of_bits
built_A = refl

-- "B: faces 0 1 2, 0 2 3."
pub built_B : build (blank 6 4) four_points (0 ∷ 1 ∷ 2 ∷ 0 ∷ 2 ∷ 3 ∷ []) ≡ made mesh_b
unfolding build finish isolated laid ring vertices corners outside give faces face grow find_edge edge_at next previous sweep shaped_by nought float1 float2 float3 of_bits
built_B = refl

-- "T: faces 0 1 2, 0 2 3, 0 3 1, 1 3 2."
pub built_T : build (blank 12 4) four_points (0 ∷ 1 ∷ 2 ∷ 0 ∷ 2 ∷ 3 ∷ 0 ∷ 3 ∷ 1 ∷ 1 ∷ 3 ∷ 2 ∷ []) ≡ made mesh_t
unfolding build finish isolated laid ring vertices corners outside give faces face grow find_edge edge_at next previous sweep shaped_by nought float1 float2 float3 of_bits
built_T = refl

-- "Faces 0 1 2, 0 3 4: corners 5 1 2 0 3 4, six vertices." The later fan keeps vertex 0; vertex 5 stands at its point.
pub built_bow : build (blank 6 6)
    (float1 ∷ float2 ∷ float3 ∷ float1 ∷ nought ∷ nought ∷ float2 ∷ nought ∷ nought ∷ float3 ∷ nought ∷ nought ∷ float1 ∷ float1 ∷ nought ∷ [])
    (0 ∷ 1 ∷ 2 ∷ 0 ∷ 3 ∷ 4 ∷ [])
    ≡ made
    (table
    (5 ∷ 1 ∷ 2 ∷ 0 ∷ 3 ∷ 4 ∷ [])
    (absent ∷ absent ∷ absent ∷ absent ∷ absent ∷ absent ∷ [])
    (0 ∷ 0 ∷ 0 ∷ 0 ∷ 0 ∷ 0 ∷ [])
    (3 ∷ 1 ∷ 2 ∷ 4 ∷ 5 ∷ 0 ∷ [])
    (0 ∷ 0 ∷ 0 ∷ 0 ∷ 0 ∷ 0 ∷ [])
    (float1 ∷ float2 ∷ float3 ∷ float1 ∷ nought ∷ nought ∷ float2 ∷ nought ∷ nought ∷ float3 ∷ nought ∷ nought ∷ float1 ∷ float1 ∷ nought ∷ float1 ∷ float2 ∷ float3 ∷ [])
    6
    6)
unfolding build finish isolated laid ring vertices corners outside give faces face grow find_edge edge_at next previous sweep shaped_by nought float1 float2 float3 of_bits
built_bow = refl

-- ---- the others, and a refusal of each number

-- "Faces 0 1 2, 0 1 3 over four points: one skipped, vertex 3 deleted."
pub built_skip : build (blank 6 5) four_points (0 ∷ 1 ∷ 2 ∷ 0 ∷ 1 ∷ 3 ∷ [])
    ≡ record {
      answer = 0;
      skipped = 1;
      result =
          table
          (0 ∷ 1 ∷ 2 ∷ 0 ∷ 0 ∷ 0 ∷ [])
          (absent ∷ absent ∷ absent ∷ absent ∷ absent ∷ absent ∷ [])
          (0 ∷ 0 ∷ 0 ∷ 0 ∷ 0 ∷ 0 ∷ [])
          (0 ∷ 1 ∷ 2 ∷ absent ∷ absent ∷ [])
          (0 ∷ 0 ∷ 0 ∷ 1 ∷ 0 ∷ [])
          (nought ∷ nought ∷ nought ∷ float1 ∷ nought ∷ nought ∷ float2 ∷ nought ∷ nought ∷ float3 ∷ nought ∷ nought ∷ nought ∷ nought ∷ nought ∷ [])
          4
          3;
    }
unfolding build finish isolated laid ring vertices corners outside give faces face grow find_edge edge_at next previous sweep shaped_by nought float1 float2 float3 of_bits
built_skip = refl

-- "Empty lists: counts 0, well-formed."
pub built_nothing : build (blank 0 0) [] [] ≡ made (blank 0 0)
unfolding build finish isolated laid ring vertices corners outside give faces face grow find_edge edge_at next previous sweep shaped_by nought of_bits
built_nothing = refl

-- "one or two indices left at the end are ignored", whatever they are
pub one_left_over : build (blank 3 3) three_points (0 ∷ 1 ∷ 2 ∷ 99 ∷ []) ≡ made mesh_a
unfolding build finish isolated laid ring vertices corners outside give faces face grow find_edge edge_at next previous sweep shaped_by nought float1 float2 of_bits
one_left_over = refl

pub two_left_over : build (blank 3 3) three_points (0 ∷ 1 ∷ 2 ∷ 0 ∷ 99 ∷ []) ≡ made mesh_a
unfolding build finish isolated laid ring vertices corners outside give faces face grow find_edge edge_at next previous sweep shaped_by nought float1 float2 of_bits
two_left_over = refl

-- 2: "an index not below the vertex count"; 3: "two equal indices"; 4: a point not finite; 5: more points than room; 6: "no room for three corners"
pub refused_2 : build (blank 6 3) three_points (0 ∷ 1 ∷ 3 ∷ []) ≡ refused_build 6 3 2
unfolding build finish isolated laid ring vertices corners outside give faces face grow find_edge edge_at next previous sweep shaped_by nought float1 float2 of_bits
refused_2 = refl

pub refused_3 : build (blank 6 3) three_points (0 ∷ 1 ∷ 1 ∷ []) ≡ refused_build 6 3 3
unfolding build finish isolated laid ring vertices corners outside give faces face grow find_edge edge_at next previous sweep shaped_by nought float1 float2 of_bits
refused_3 = refl

pub refused_4 : build (blank 3 3) (nought ∷ nan ∷ nought ∷ []) [] ≡ refused_build 3 3 4
unfolding build finish isolated laid ring vertices corners outside give faces face grow find_edge edge_at next previous sweep shaped_by nought float1 float2 of_bits
refused_4 = refl

pub refused_5 : build (blank 3 2) three_points (0 ∷ 1 ∷ 2 ∷ []) ≡ refused_build 3 2 5
unfolding build finish isolated laid ring vertices corners outside give faces face grow find_edge edge_at next previous sweep shaped_by nought float1 float2 of_bits
refused_5 = refl

pub refused_6 : build (blank 2 3) three_points (0 ∷ 1 ∷ 2 ∷ []) ≡ refused_build 2 3 6
unfolding build finish isolated laid ring vertices corners outside give faces face grow find_edge edge_at next previous sweep shaped_by nought float1 float2 of_bits
refused_6 = refl

-- "the face is skipped and counted, not refused", before 6: there is no room for it
pub skipped_when_full : build (blank 3 3) three_points (0 ∷ 1 ∷ 2 ∷ 0 ∷ 1 ∷ 2 ∷ []) ≡ built 0 1 mesh_a
unfolding build finish isolated laid ring vertices corners outside give faces face grow find_edge edge_at next previous sweep shaped_by nought float1 float2 of_bits
skipped_when_full = refl

-- "If the duplicates don't fit, the build is refused (5)"
pub refused_duplicates : build (blank 6 5)
    (float1 ∷ float2 ∷ float3 ∷ float1 ∷ nought ∷ nought ∷ float2 ∷ nought ∷ nought ∷ float3 ∷ nought ∷ nought ∷ float1 ∷ float1 ∷ nought ∷ [])
    (0 ∷ 1 ∷ 2 ∷ 0 ∷ 3 ∷ 4 ∷ [])
    ≡ refused_build 6 5 5
unfolding build finish isolated laid ring vertices corners outside give faces face grow find_edge edge_at next previous sweep shaped_by nought float1 float2 float3 of_bits
refused_duplicates = refl
