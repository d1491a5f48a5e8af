-- What holds of every ring call, as statements. Document 01, "Ring lists and the walker"; proofs/Sound.antt proves them.
use Rattle.std.specs.Prelude.{ℕ, ◌≤◌, ◌≡◌, ◌≢◌}
use mathlib.Core.List.{List, Memᴰ}
use Rattle.table.specs.Table.{Table, Shaped, Live, LiveVertex, vertex}
use Rattle.table.specs.Rules.{WellFormed}
use Rattle.fan.specs.Visits.{Distinct}
use Rattle.traversal_visits.specs.Walk.{visits}
use Rattle.traversal.specs.Ring.{used_corners, walk_of, ring_of}
use Rattle.traversal_lists.specs.declared.Kind.{Kind}

-- "Visit count in the ring result, equal to the definition's visits, and limited by the table's corner count", on any table
abbrev pub VisitsBounded : Type 0
VisitsBounded = (kind : Kind) (v : ℕ) (t : Table) (list : List ℕ) → (ring_of kind v t list).visited ≤ used_corners t

-- "A well-formed table never gets 15 .."
abbrev pub NeverTangled : Type 0
NeverTangled = (t : Table) → Shaped t → WellFormed t → (kind : Kind) (v : ℕ) (list : List ℕ) → (ring_of kind v t list).answer ≢ 15

-- ".. and the visits are then exactly the corners of that vertex", none twice
pub record Exact (t : Table) (v : ℕ) : Type 0 where
  pub only : (d : ℕ) → Memᴰ d (visits (walk_of t v)) → Live t d × (vertex t d ≡ v)
  pub all : (d : ℕ) → Live t d → vertex t d ≡ v → Memᴰ d (visits (walk_of t v))
  pub once : Distinct (visits (walk_of t v))

abbrev pub VisitsExact : Type 0
VisitsExact = (t : Table) → Shaped t → WellFormed t → (v : ℕ) → LiveVertex t v → Exact t v
