-- What a command reads of a well-formed table it finds in a larger room too: each read is of a used slot. Assumes nothing.
use Prim.Native.Nat.{ℕ, zero, suc, ◌+◌, ◌*◌, ◌<◌}
use mathlib.Core.Path.{◌≡◌, refl, sym, ap, ap₂, ◌∙◌}
use mathlib.Core.Logic.{◌≢◌}
use mathlib.Core.Bool.{Bool, true, false, cond}
use mathlib.Core.List.{List, ◌∷◌, map}
use native.Mathlib.Omega.{arith}
use native.Mathlib.Decide.{ℕ_discrete}
use borrow.Author.Tests.{eq-eqb, ne_eqb}
use lib.Dec.{eqb}
use Rattle.corner.specs.Corner.{absent, next, previous, turn}
use Rattle.table.specs.Slots.{vertex_at, mark_at, nought, point_at}
use Rattle.table.specs.Table.{Table, vertex, opposite, corner, Live, Shaped}
use Rattle.table.specs.Rules.{WellFormed}
use Rattle.fan.proofs.Fan.{Linked, face_previous}
use Rattle.fan.proofs.Tables.{table_linked}
use Rattle.ring.specs.Ring.{Sweep, stop, more, sweep, ring}
use Rattle.edit_plans.specs.Plans.{around, triangle}
use Rattle.edge_collapse.specs.EdgeCollapse.{meets_border, neighbours, affects_boundary, neighbour_ring, unsafe}
use Rattle.promises.specs.Rooms.{Roomier}

module _ {t u : Table} (S : Roomier t u) where
  pub same_opposite : (c : ℕ) → c < t.corners → opposite t c ≡ opposite u c
  same_opposite c h = S.corner_opposite.same c absent h

  pub same_vertex : (c : ℕ) → c < t.corners → vertex t c ≡ vertex u c
  same_vertex c h = S.corner_vertex.same c 0 h

  pub same_corner : (v : ℕ) → v < t.vertices → corner t v ≡ corner u v
  same_corner v h = S.vertex_corner.same v absent h

  pub same_mark : (c : ℕ) → c < t.corners → mark_at t.corner_mark c ≡ mark_at u.corner_mark c
  same_mark c h = S.corner_mark.same c 1 h

  pub same_point : (v : ℕ) → v < t.vertices → point_at t.vertex_point v ≡ point_at u.vertex_point v
  same_point v h =
      rw (
        S.vertex_point.same (3 * v) nought (omega arith),
        S.vertex_point.same (3 * v + 1) nought (omega arith),
        S.vertex_point.same (3 * v + 2) nought (omega arith),
      )

  module _ (Z : Shaped t) (W : WellFormed t) where
    L : Linked (Live t) (opposite t) (vertex t)
    L = table_linked t Z W

    turned : (left : Bool) (c : ℕ) → Live t c → Live t (turn left c)
    turned true c h = L.face c h
    turned false c h = face_previous L c h

    -- a walk stands on live corners alone
    side_same : (left : Bool) (c₀ n c : ℕ) → Live t c → sweep left t.corner_opposite c₀ n c ≡ sweep left u.corner_opposite c₀ n c
    unfolding sweep
    side_same left c₀ zero c h = refl
    side_same left c₀ (suc n) c h = rw (← (same_opposite (turn left c) (turned left c h).0)) (go (ℕ_discrete o absent) (λ k. side_same left c₀ n (turn left o) k))
      where
        o : ℕ
        o = opposite t (turn left c)

        go : Dec (o ≡ absent)
            → (Live t (turn left o) → sweep left t.corner_opposite c₀ n (turn left o) ≡ sweep left u.corner_opposite c₀ n (turn left o))
            → cond (eqb o absent) (stop true) (cond (eqb (turn left o) c₀) (stop false) (more (turn left o) (sweep left t.corner_opposite c₀ n (turn left o))))
            ≡ cond (eqb o absent) (stop true) (cond (eqb (turn left o) c₀) (stop false) (more (turn left o) (sweep left u.corner_opposite c₀ n (turn left o))))
        go (yes e) r = rw (eq-eqb o absent e)
        go (no e) r = rw (r (turned left o (L.over (turn left c) (turned left c h) e)))

    pub ring_same : (c : ℕ) → Live t c → ring t.corner_opposite t.corners c ≡ ring u.corner_opposite t.corners c
    unfolding ring
    ring_same c h = rw (side_same true c t.corners c h, side_same false c t.corners c h)

    pub border_same : (c : ℕ) → Live t c → meets_border t.corner_opposite t.corners c ≡ meets_border u.corner_opposite t.corners c
    unfolding meets_border
    border_same c h = ap (λ (x : Sweep). x.border) (side_same true c t.corners c h)

    -- the vertices before the corners of a walk
    abbrev f : ℕ → ℕ
    f d = vertex_at t.corner_vertex (previous d)

    abbrev g : ℕ → ℕ
    g d = vertex_at u.corner_vertex (previous d)

    named : (d : ℕ) → Live t d → f d ≡ g d
    named d h = same_vertex (previous d) (face_previous L d h).0

    named_all : (c₀ n c : ℕ) → Live t c → map f (sweep true t.corner_opposite c₀ n c).visits ≡ map g (sweep true t.corner_opposite c₀ n c).visits
    unfolding sweep
    named_all c₀ zero c h = refl
    named_all c₀ (suc n) c h = go (ℕ_discrete o absent) (eqb d c₀) (λ k. named_all c₀ n d k)
      where
        o : ℕ
        o = opposite t (next c)

        d : ℕ
        d = next o

        go : Dec (o ≡ absent) → (b : Bool)
            → (Live t d → map f (sweep true t.corner_opposite c₀ n d).visits ≡ map g (sweep true t.corner_opposite c₀ n d).visits)
            → map f (cond (eqb o absent) (stop true) (cond b (stop false) (more d (sweep true t.corner_opposite c₀ n d)))).visits
            ≡ map g (cond (eqb o absent) (stop true) (cond b (stop false) (more d (sweep true t.corner_opposite c₀ n d)))).visits
        go (yes e) b r = rw (eq-eqb o absent e)
        go (no e) true r = rw (ne_eqb o absent e)
        go (no e) false r =
            let k : Live t d = L.face o (L.over (next c) (L.face c h) e) in
            rw (ne_eqb o absent e) (ap₂ (λ (x : ℕ) (l : List ℕ). x ∷ l) (named d k) (r k))

    neighbours_same : (c : ℕ) → Live t c
        → neighbours t.corner_vertex t.corner_opposite t.corners c ≡ neighbours u.corner_vertex u.corner_opposite t.corners c
    unfolding neighbours
    neighbours_same c h =
        rw (← (side_same true c t.corners c h)) (ap₂ (λ (x : ℕ) (l : List ℕ). x ∷ l) (named c h) (named_all c t.corners c h))

    -- ---- by vertex

    vertex_corner_lem : (c : ℕ) → Live t c → Live t (corner t (vertex t c))
    vertex_corner_lem c h = W.corner_live (vertex t c) (W.vertex_live c h)

    corner_same : (c : ℕ) → Live t c → corner u (vertex u c) ≡ corner t (vertex t c)
    corner_same c h = sym (same_corner (vertex t c) (W.vertex_live c h).0 ∙ ap (corner u) (same_vertex c h.0))

    neighbour_ring_same : (c : ℕ) → Live t c → neighbour_ring t (vertex t c) ≡ neighbour_ring u (vertex u c)
    neighbour_ring_same c h = rw (corner_same c h, ← S.corners) (neighbours_same (corner t (vertex t c)) (vertex_corner_lem c h))

    meets_same : (c : ℕ) → Live t c
        → meets_border t.corner_opposite t.corners (corner t (vertex t c)) ≡ meets_border u.corner_opposite u.corners (corner u (vertex u c))
    meets_same c h = rw (corner_same c h, ← S.corners) (border_same (corner t (vertex t c)) (vertex_corner_lem c h))

    module _ (c : ℕ) (h : Live t c) where
      pub affects_same : affects_boundary t c ≡ affects_boundary u c
      unfolding affects_boundary
      affects_same = rw (meets_same (next c) (L.face c h), meets_same (previous c) (face_previous L c h))

      pub unsafe_same : unsafe t c ≡ unsafe u c
      unfolding unsafe
      unsafe_same =
          rw (neighbour_ring_same (next c) (L.face c h), neighbour_ring_same (previous c) (face_previous L c h), same_vertex (previous c) (face_previous L c h).0)

      -- ---- the plans

      pub triangle_same : triangle t.corner_vertex t.corner_opposite c ≡ triangle u.corner_vertex u.corner_opposite c
      unfolding triangle
      triangle_same =
          let c1 : next c < t.corners = (L.face c h).0 in
          let c2 : next (next c) < t.corners = (L.face (next c) (L.face c h)).0 in
          rw (
            ← (same_opposite c h.0),
            ← (same_opposite (next c) c1),
            ← (same_vertex c h.0),
            ← (same_vertex (next c) c1),
            ← (same_vertex (next (next c)) c2),
          )

      pub around_same : opposite t c ≢ absent → around t.corner_vertex t.corner_opposite c ≡ around u.corner_vertex u.corner_opposite c
      unfolding around
      around_same n =
          let h2 : Live t (next c) = L.face c h in
          let h0 : Live t (next (next c)) = L.face (next c) h2 in
          let h4 : Live t (opposite t c) = L.over c h n in
          let h5 : Live t (next (opposite t c)) = L.face (opposite t c) h4 in
          let h3 : Live t (next (next (opposite t c))) = L.face (next (opposite t c)) h5 in
          rw (
            ← (same_opposite c h.0),
            ← (same_opposite (next c) h2.0),
            ← (same_opposite (next (next c)) h0.0),
            ← (same_opposite (next (opposite t c)) h5.0),
            ← (same_opposite (next (next (opposite t c))) h3.0),
            ← (same_vertex c h.0),
            ← (same_vertex (next c) h2.0),
            ← (same_vertex (next (next c)) h0.0),
            ← (same_vertex (opposite t c) h4.0),
          )
