-- What a call answers, and what the two inner functions of the builder find.
use Rattle.std.specs.Prelude.{ℕ, ◌*◌, ◌/◌, ◌%◌, ◌≤◌, ◌≡◌, List, Float, Result, Ok, Err, length, replicate}
use Rattle.refusal.specs.declared.Refusal.{Refusal}
use Rattle.refusal.specs.Refusal.{number_of}
use Rattle.table.specs.Table.{Table, blank, corner_room, vertex_room, max_corners, max_vertices}
use Rattle.builder_build.specs.Build.{BuildOutcome, built, refused_build, SoFar}
use Rattle.builder_build.specs.Ready.{Ready}
use Rattle.builder_faces.specs.Steps.{so_far}

-- how many faces were skipped; a refused build reports none
abbrev pub skipped_of : Result ℕ Refusal → ℕ
skipped_of (Ok k) = k
skipped_of (Err e) = 0

-- the outcome in the rooms of t, where u is left: a refused table is still to be made blank
abbrev pub outcome : Table → Result ℕ Refusal → Table → BuildOutcome
outcome t (Ok k) u = built 0 k u
outcome t (Err e) u = refused_build (corner_room t) (vertex_room t) (number_of e)

-- a blank table with its points still to come, and room for them
pub record Fresh (t : Table) (ps : List Float) : Type 0 where
  pub empty : t ≡ blank (corner_room t) (vertex_room t)
  pub corners : corner_room t ≤ max_corners
  pub rooms : vertex_room t ≤ max_vertices
  pub fits : length ps / 3 ≤ vertex_room t
  pub thirds : length ps % 3 ≡ 0

-- what the faces have made in t, where so many were skipped
abbrev pub faces_in : Table → ℕ → SoFar
faces_in t skipped = so_far t.corner_vertex t.corner_opposite t.vertex_corner t.corners skipped

-- where the duplicates begin: the faces are in, and all marks are 0
pub record Begun (t : Table) (skipped : ℕ) : Type 0 where
  pub ready : Ready t.vertices (corner_room t) (vertex_room t) (faces_in t skipped)
  pub marks : t.corner_mark ≡ replicate (corner_room t) 0
  pub flags : t.vertex_mark ≡ replicate (vertex_room t) 0
  pub points : length t.vertex_point ≡ 3 * vertex_room t
  pub small : vertex_room t ≤ max_vertices
