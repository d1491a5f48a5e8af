-- What the quick pass says of a corner: the tests of R2 to R4 pass there. Document 01, "Well-formed".
use Rattle.std.specs.Prelude.{ℕ, ◌%◌, ◌≤◌, ◌≡◌, true, length}
use Rattle.corner.specs.Corner.{absent}
use Rattle.table.specs.Table.{Table, corner_room}
use Rattle.checker_rules.specs.Tests.{mark_test, face_test, vertex_test, differ_test, opposite_test}

-- the corners in use are there, in whole faces, and their count is one of 32 bits
pub record There (t : Table) : Type 0 where
  pub vertices : t.corners ≤ length t.corner_vertex
  pub opposites : t.corners ≤ length t.corner_opposite
  pub marks : t.corners ≤ corner_room t
  pub thirds : t.corners % 3 ≡ 0
  pub counted : t.corners ≤ absent

-- R3 and R4
pub record CornerFits (t : Table) (c : ℕ) : Type 0 where
  pub vertex : vertex_test t.corner_vertex t.corner_mark t.vertex_mark t.vertices t.corners c ≡ true
  pub differ : differ_test t.corner_vertex t.corner_mark t.corners c ≡ true
  pub opposite : opposite_test t.corner_vertex t.corner_opposite t.corner_mark t.corners c ≡ true

-- and R2
pub record Fits (t : Table) (c : ℕ) : Type 0 where
  pub mark : mark_test t.corner_mark c ≡ true
  pub face : face_test t.corner_mark c ≡ true
  pub corner : CornerFits t c
