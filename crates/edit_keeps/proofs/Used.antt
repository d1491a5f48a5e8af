-- On a well-formed table an edit's plan, and the ring that it renumbers, name used slots alone: no total read or write falls back. Assumes
-- nothing.
use Prim.Native.Nat.{ℕ, ◌<◌}
use mathlib.Core.Path.{◌≡◌}
use mathlib.Core.Logic.{◌≢◌, inl, inr}
use mathlib.Core.List.{Memᴰ}
use native.Mathlib.Decide.{ℕ_discrete}
use Rattle.corner.specs.Corner.{absent, next}
use Rattle.table.specs.Table.{Table, vertex, opposite, Live, Shaped}
use Rattle.table.specs.Rules.{WellFormed}
use Rattle.fan.proofs.Fan.{Linked}
use Rattle.fan.proofs.Tables.{table_linked}
use Rattle.ring.specs.Ring.{ring}
use Rattle.ring.proofs.Exact.{ring_sound}
use Rattle.edit_plans.specs.Plans.{around, triangle}
use Rattle.edit_keeps.specs.Keeps.{Outer, AroundUsed, TriangleUsed}

module _ (t : Table) (Z : Shaped t) (W : WellFormed t) where
  L : Linked (Live t) (opposite t) (vertex t)
  L = table_linked t Z W

  outer : (c : ℕ) → Live t c → Outer t (opposite t c)
  outer c h = go (ℕ_discrete (opposite t c) absent)
    where
      go : Dec (opposite t c ≡ absent) → Outer t (opposite t c)
      go (yes e) = inl e
      go (no n) = inr (W.mate c h n).over.0

  pub triangle_used : (c : ℕ) → Live t c → TriangleUsed t (triangle t.corner_vertex t.corner_opposite c)
  unfolding triangle
  triangle_used c h =
      let h1 : Live t (next c) = L.face c h in
      let h2 : Live t (next (next c)) = L.face (next c) h1 in
      record {
        c0 = h.0;
        c1 = h1.0;
        c2 = h2.0;
        v0 = (W.vertex_live c h).0;
        v1 = (W.vertex_live (next c) h1).0;
        v2 = (W.vertex_live (next (next c)) h2).0;
        o0 = outer c h;
        o1 = outer (next c) h1;
      }

  pub around_used : (c : ℕ) → Live t c → opposite t c ≢ absent → AroundUsed t (around t.corner_vertex t.corner_opposite c)
  unfolding around
  around_used c h n =
      let h2 : Live t (next c) = L.face c h in
      let h0 : Live t (next (next c)) = L.face (next c) h2 in
      let h4 : Live t (opposite t c) = L.over c h n in
      let h5 : Live t (next (opposite t c)) = L.face (opposite t c) h4 in
      let h3 : Live t (next (next (opposite t c))) = L.face (next (opposite t c)) h5 in
      record {
        c0 = h0.0;
        c1 = h.0;
        c2 = h2.0;
        c3 = h3.0;
        c4 = h4.0;
        c5 = h5.0;
        v0 = (W.vertex_live _ h0).0;
        v1 = (W.vertex_live c h).0;
        v2 = (W.vertex_live _ h2).0;
        v3 = (W.vertex_live _ h4).0;
        o0 = outer _ h0;
        o2 = outer _ h2;
        o3 = outer _ h3;
        o5 = outer _ h5;
      }

  pub ring_used : (c : ℕ) → Live t c → (d : ℕ) → Memᴰ d (ring t.corner_opposite t.corners c) → d < t.corners
  ring_used c h d m = ((ring_sound t Z W c h).from d m).0.0
