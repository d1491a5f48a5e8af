-- What the answer 0 of a command says, one record a kind: each check of its order was passed.
use Rattle.std.specs.Prelude.{ℕ, ◌+◌, ◌≤◌, ◌<◌, ◌≡◌, ◌≢◌, true, false}
use Rattle.corner.specs.Corner.{absent, first_corner}
use Rattle.vertex.specs.declared.Point.{Point}
use Rattle.vertex.specs.Point.{finite_point}
use Rattle.table.specs.Table.{Table, corner_room, vertex_room, vertex, opposite, Live}
use Rattle.edge_collapse.specs.EdgeCollapse.{affects_boundary, unsafe}
use Rattle.script_command.specs.Checks.{corners_for}

-- the slots that are put on the end, one vertex and n corners, are within the room
pub record EndFits (t : Table) (n : ℕ) : Type 0 where
  pub vertices : t.vertices < vertex_room t
  pub corners : t.corners + n ≤ corner_room t

pub record CollapsePassed (t : Table) (c : ℕ) (p : Point) : Type 0 where
  pub lives : Live t c
  pub finite : finite_point p ≡ true
  pub inside : affects_boundary t c ≡ false
  pub wings : vertex t c ≢ vertex t (opposite t c)
  pub safe : unsafe t c ≡ false

pub record FlipPassed (t : Table) (c : ℕ) : Type 0 where
  pub lives : Live t c
  pub inner : opposite t c ≢ absent
  pub wings : vertex t c ≢ vertex t (opposite t c)

pub record SplitEdgePassed (t : Table) (c : ℕ) (p : Point) : Type 0 where
  pub lives : Live t c
  pub finite : finite_point p ≡ true
  pub room : EndFits t (corners_for (opposite t c))

pub record SplitFacePassed (t : Table) (f : ℕ) (p : Point) : Type 0 where
  pub lives : Live t (first_corner f)
  pub finite : finite_point p ≡ true
  pub room : EndFits t 6
