-- One vertex more: marks, who is live, and the points. Assumes nothing.
use mathlib.Core.Path.{◌≡◌, refl, ap, sym, ◌∙◌}
use mathlib.Core.Logic.{◌≢◌}
use mathlib.Core.Bool.{true}
use mathlib.Core.List.{List}
use Prim.Native.Nat.{ℕ, ◌+◌, ◌*◌, ◌≤◌, ◌<◌}
use native.Mathlib.Omega.{arith}
use native.Mathlib.Decide.{ℕ_discrete}
use lib.Ieee.{Float}
use lib.ListN.{length, get_or, set}
use Rattle.vertex.specs.declared.Point.{Point}
use Rattle.vertex.specs.Point.{finite_point}
use Rattle.table.specs.Slots.{mark_at, point_at, with_point}
use Rattle.table.specs.Table.{Table, LiveVertex, Shaped}
use Rattle.table.specs.Rules.{WellFormed}
use Rattle.fan.proofs.Redirect.{at, at_same, at_other, Seen, set_seen}
use Rattle.edit_split_edge.specs.SplitEdge.{split_points}
use Rattle.edit_keeps.proofs.Writes.{marks_grown, placed_here, placed_other, length_placed}

abbrev pub LiveV1 : Table → ℕ → Type 0
LiveV1 t v = (v < t.vertices + 1) × (get_or (set t.vertex_mark t.vertices 0) v 1 ≡ 0)

module _ (t : Table) (W : WellFormed t) (vroom : t.vertices + 1 ≤ length t.vertex_mark) where
  vm_seen : (v : ℕ) → v < t.vertices + 1 → get_or (set t.vertex_mark t.vertices 0) v 1 ≡ at t.vertices 0 (λ v. get_or t.vertex_mark v 1) v
  vm_seen v h =
      let s : Seen t.vertex_mark (λ v. get_or t.vertex_mark v 1) 1 v = record { inside = omega arith; value = refl } in
      (set_seen t.vertices 0 s).value

  pub old_vertex : (v : ℕ) → LiveVertex t v → LiveV1 t v
  old_vertex v h = (omega (arith, h.0), vm_seen v (omega (arith, h.0)) ∙ at_other _ _ _ _ (omega (arith, h.0)) ∙ h.1)

  pub new_one : LiveV1 t t.vertices
  new_one = (omega arith, vm_seen t.vertices (omega arith) ∙ at_same _ _ _)

  pub was_vertex : (v : ℕ) → LiveV1 t v → v ≢ t.vertices → LiveVertex t v
  was_vertex v h m = (omega (arith, h.0), sym (at_other t.vertices 0 _ v m) ∙ sym (vm_seen v h.0) ∙ h.1)

  pub vertex_marks_lem : (v : ℕ) → v < t.vertices + 1 → mark_at (set t.vertex_mark t.vertices 0) v ≤ 1
  vertex_marks_lem =
      marks_grown t.vertex_mark (set t.vertex_mark t.vertices 0) t.vertices (t.vertices + 1) W.vertex_marks
      (λ i h. vm_seen i (omega arith) ∙ at_other _ _ _ _ (omega arith)) new
    where
      new : (i : ℕ) → t.vertices ≤ i → i < t.vertices + 1 → mark_at (set t.vertex_mark t.vertices 0) i ≡ 0
      new i a b = let e : i ≡ t.vertices = omega arith in rw e new_one.1

  module _ (Z : Shaped t) where
    inside : (v : ℕ) → v < t.vertices + 1 → 3 * v + 2 < length t.vertex_point
    inside v h = omega (arith, Z.vertex_point_room)

    -- the new vertex at a finite point
    pub placed_finite : (at : Point) → finite_point at ≡ true → (v : ℕ) → LiveV1 t v → finite_point (point_at (with_point t.vertex_point t.vertices at) v) ≡ true
    placed_finite at f v h = go (ℕ_discrete v t.vertices)
      where
        go : Dec (v ≡ t.vertices) → finite_point (point_at (with_point t.vertex_point t.vertices at) v) ≡ true
        go (yes e) =
            ap (λ (i : ℕ). finite_point (point_at (with_point t.vertex_point t.vertices at) i)) e
            ∙ ap finite_point (placed_here t.vertex_point t.vertices at (inside t.vertices (omega arith))) ∙ f
        go (no n) = ap finite_point (placed_other t.vertex_point t.vertices at v n) ∙ W.finite v (was_vertex v h n)

    -- a vertex moved to a finite point, and the new one at its old place
    pub split_finite : (w : ℕ) → LiveVertex t w → (at : Point) → finite_point at ≡ true → (v : ℕ) → LiveV1 t v
        → finite_point (point_at (split_points w t.vertices at t.vertex_point) v) ≡ true
    unfolding split_points
    split_finite w l at f v h = go (ℕ_discrete v t.vertices) (ℕ_discrete v w)
      where
        moved : List Float
        moved = with_point t.vertex_point w at

        now : List Float
        now = with_point moved t.vertices (point_at t.vertex_point w)

        go : Dec (v ≡ t.vertices) → Dec (v ≡ w) → finite_point (point_at now v) ≡ true
        go (yes e) y =
            ap (λ (i : ℕ). finite_point (point_at now i)) e
            ∙ ap finite_point (placed_here moved t.vertices (point_at t.vertex_point w)
            (rw (length_placed t.vertex_point w at) (inside t.vertices (omega arith))))
            ∙ W.finite w l
        go (no n) (yes e) =
            ap finite_point (placed_other moved t.vertices (point_at t.vertex_point w) v n)
            ∙ ap (λ (i : ℕ). finite_point (point_at moved i)) e
            ∙ ap finite_point (placed_here t.vertex_point w at (inside w (omega (arith, l.0)))) ∙ f
        go (no n) (no m) =
            ap finite_point (placed_other moved t.vertices (point_at t.vertex_point w) v n)
            ∙ ap finite_point (placed_other t.vertex_point w at v m) ∙ W.finite v (was_vertex v h n)
