-- What makes a collapse unsafe, by what was counted in the rings of its two end vertices. Assumes nothing.
use mathlib.Core.Path.{◌≡◌}
use mathlib.Core.Bool.{true, not}
use Prim.Native.Nat.{ℕ, ◌≤◌, ◌<◌}
use borrow.Author.Tests.{lt-ltb, le-ltb}
use lib.Dec.{eqb}
use Rattle.corner.specs.Corner.{next, previous}
use Rattle.table.specs.Slots.{corner_at}
use Rattle.table.specs.Table.{Table, vertex}
use Rattle.edge_collapse.specs.EdgeCollapse.{neighbours, times_in, common_in, unsafe}

module _ (t : Table) (c kept lost : ℕ) (is : kept ≡ vertex t (next c)) (is' : lost ≡ vertex t (previous c))
    (k l : ℕ) (at : k ≡ corner_at t.vertex_corner kept) (at' : l ≡ corner_at t.vertex_corner lost) (n : ℕ)
    (counted : n ≡ times_in (neighbours t.corner_vertex t.corner_opposite t.corners k) lost) where
  pub unsafe_third : 1 < n → true ≡ unsafe t c
  unfolding unsafe
  unsafe_third h = rw (← is, ← is', ← at, ← counted, lt-ltb 1 n h)

  pub unsafe_common : n ≤ 1 → (m : ℕ)
      → m ≡ common_in (neighbours t.corner_vertex t.corner_opposite t.corners k) (neighbours t.corner_vertex t.corner_opposite t.corners l)
      → not (eqb m 2) ≡ unsafe t c
  unfolding unsafe
  unsafe_common h m e = rw (← is, ← is', ← at, ← at', ← counted, ← e, le-ltb 1 n h)
