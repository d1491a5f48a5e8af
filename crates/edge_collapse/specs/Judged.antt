-- What both tests say at once, and what is gathered of a ring on the way.
use Rattle.std.specs.Prelude.{ℕ, Bool, cond, true, false, ◌≡◌, List, take}
use Rattle.table.specs.Table.{Table}
use Rattle.edge_collapse.specs.EdgeCollapse.{meets_border, neighbours, affects_boundary, unsafe}
use Rattle.edge_collapse.specs.declared.near.Near.{Near}
use Rattle.edge_collapse.specs.declared.Gathered.{Gathered}
use Rattle.edge_collapse.specs.declared.Gathered.TheVariants.{Border, TooMany, All}
use Rattle.edge_collapse.specs.declared.Judgement.{Judgement}
use Rattle.edge_collapse.specs.declared.Judgement.TheVariants.{Safe, Unsafe, Boundary}

-- the second test tells only where the first does not refuse
abbrev pub judged : (border bad : Bool) → Judgement
judged border bad = cond border Boundary (cond bad Unsafe Safe)

abbrev pub judgement : Table → ℕ → Judgement
judgement t c = judged (affects_boundary t c) (unsafe t c)

-- the neighbours at hand
abbrev pub listed : Near → List ℕ
listed n = take n.len n.items

-- what a walk from a corner of a table finds: whether it meets a border, and the ring of neighbours
abbrev pub border_from : Table → ℕ → Bool
border_from t c = meets_border t.corner_opposite t.corners c

abbrev pub ring_from : Table → ℕ → List ℕ
ring_from t c = neighbours t.corner_vertex t.corner_opposite t.corners c

-- an open ring, one of which nothing is told, or a closed one
abbrev pub IsGathered : Table → ℕ → Gathered → Type 0
IsGathered t c Border = border_from t c ≡ true
IsGathered t c TooMany = Unit
IsGathered t c (All near) = (border_from t c ≡ false) × (listed near ≡ ring_from t c)
