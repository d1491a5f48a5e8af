-- The blank table. Assumes nothing.
use Prim.Native.Nat.{ℕ}
use mathlib.Core.Path.{◌≡◌}
use mathlib.Core.List.{List}
use lib.Ieee.{Float}
use lib.ListN.{length}
use Rattle.corner.specs.Corner.{absent}
use Rattle.table.specs.Slots.{nought, blanked}
use Rattle.table.specs.Table.{table, blank, Shaped}

-- parts that agree, each filled with its blank, are the blank table
pub cleared : (cv co cm vc vm cv' co' cm' vc' vm' : List ℕ) (vp vp' : List Float) (nv nc : ℕ) → Shaped (table cv co cm vc vm vp nv nc)
    → (cv' ≡ blanked 0 cv) × (co' ≡ blanked absent co) × (cm' ≡ blanked 0 cm) × (vc' ≡ blanked absent vc) × (vm' ≡ blanked 0 vm) × (vp' ≡ blanked nought vp)
    → table cv' co' cm' vc' vm' vp' 0 0 ≡ blank (length cm) (length vm)
cleared cv co cm vc vm cv' co' cm' vc' vm' vp vp' nv nc S e =
    rw (e.0, e.1, e.2, e.3, e.4, e.5, S.corner_vertex_room, S.corner_opposite_room, S.vertex_corner_room, S.vertex_point_room)
