-- What each edit keeps of a well-formed table, where its answer is 0, and which slots it reads and writes. The theorems are in
-- proofs/Kept.antt and proofs/Used.antt.
use Rattle.std.specs.Prelude.{ℕ, ◌<◌, ◌≡◌, ◌⊎◌}
use Rattle.corner.specs.Corner.{absent}
use Rattle.table.specs.Table.{Table, corner_room, vertex_room, Shaped}
use Rattle.table.specs.Rules.{WellFormed}
use Rattle.table.specs.Euler.{SameEuler}
use Rattle.edit_plans.specs.declared.Around.{Around}
use Rattle.edit_plans.specs.declared.Triangle.{Triangle}

-- demand 3: the table is well-formed and V−E+F is what it was; the lent parts keep their lengths
pub record Kept (t u : Table) : Type 0 where
  pub shaped : Shaped u
  pub well_formed : WellFormed u
  pub euler : SameEuler t u
  pub corner_rooms : corner_room u ≡ corner_room t
  pub vertex_rooms : vertex_room u ≡ vertex_room t

-- a corner that is read or written is used, an outer opposite is absent or used, a vertex is used
abbrev pub Outer : Table → ℕ → Type 0
Outer t o = (o ≡ absent) ⊎ (o < t.corners)

pub record AroundUsed (t : Table) (p : Around) : Type 0 where
  pub c0 : p.c0.0 < t.corners
  pub c1 : p.c1.0 < t.corners
  pub c2 : p.c2.0 < t.corners
  pub c3 : p.c3.0 < t.corners
  pub c4 : p.c4.0 < t.corners
  pub c5 : p.c5.0 < t.corners
  pub v0 : p.v0.0 < t.vertices
  pub v1 : p.v1.0 < t.vertices
  pub v2 : p.v2.0 < t.vertices
  pub v3 : p.v3.0 < t.vertices
  pub o0 : Outer t p.o0.0
  pub o2 : Outer t p.o2.0
  pub o3 : Outer t p.o3.0
  pub o5 : Outer t p.o5.0

pub record TriangleUsed (t : Table) (p : Triangle) : Type 0 where
  pub c0 : p.c0.0 < t.corners
  pub c1 : p.c1.0 < t.corners
  pub c2 : p.c2.0 < t.corners
  pub v0 : p.v0.0 < t.vertices
  pub v1 : p.v1.0 < t.vertices
  pub v2 : p.v2.0 < t.vertices
  pub o0 : Outer t p.o0.0
  pub o1 : Outer t p.o1.0
