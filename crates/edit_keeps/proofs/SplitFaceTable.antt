-- The split of a face on the lists. Assumes nothing.
use mathlib.Core.Path.{◌≡◌, refl, ap, sym, ◌∙◌, subst}
use mathlib.Core.Logic.{◌≢◌, ◌⊎◌, inl, inr}
use mathlib.Core.Bool.{true}
use mathlib.Core.List.{List}
use lib.Ieee.{Float}
use Prim.Native.Nat.{ℕ, ◌+◌, ◌≤◌, ◌<◌}
use native.Mathlib.Omega.{arith}
use native.Mathlib.Decide.{ℕ_discrete}
use lib.ListN.{length, get_or, set, length-set}
use Rattle.corner.specs.Corner.{next}
use Rattle.corner.proofs.Turns.{next_differs}
use Rattle.corner.specs.Corner.{absent, first_corner}
use Rattle.fan.proofs.Fan.{Linked, opp_of, opp_not_self, opp_not_next, opp_not_previous}
use Rattle.edit_keeps.proofs.SplitFace.{Face3, face3, Cut, cut_linked, cut_fan}
use Rattle.fan.proofs.Redirect.{at, at_same, at_other, at_ind, Seen, set_seen}
use Rattle.vertex.specs.declared.Point.{Point}
use Rattle.vertex.specs.Point.{finite_point}
use Rattle.table.specs.Table.{Table, table, Live, LiveVertex, opposite, vertex, corner, Shaped}
use Rattle.table.specs.Rules.{WellFormed}
use Rattle.table.specs.Slots.{with_pair, point_at, with_point}
use Rattle.fan.proofs.Tables.{table_linked, table_fan, fan_table}
use Rattle.edit_keeps.proofs.Writes.{paired_seen, push6, push6_seen, push6_old, six_push6}
use Rattle.edit_keeps.proofs.SplitInner.{in_six}
use Rattle.edit_keeps.proofs.NewFaces.{grow, fresh, shrink, corner_marks_lem, face_marks_lem, next6, next7, next9, next10}
use Rattle.edit_keeps.proofs.NewVertex.{LiveV1, old_vertex, new_one, was_vertex, vertex_marks_lem, placed_finite}
use Rattle.edit_plans.specs.Plans.{triangle}
use Rattle.edit_split_face.specs.SplitFace.{face_vertices, face_opposites, face_corners, split_face}

module _ (t : Table) (Z : Shaped t) (W : WellFormed t) (room : t.corners + 6 ≤ length t.corner_mark) (vroom : t.vertices + 1 ≤ length t.vertex_mark)
    (c0 c1 c2 : ℕ) (f0 : Face3 c0 c1 c2) (l0 : Live t c0) (l1 : Live t c1) (l2 : Live t c2)
    (vp' : List Float) (good : (v : ℕ) → LiveV1 t v → finite_point (point_at vp' v) ≡ true) where
  unfoldable pub co' : List ℕ
  co' = with_pair (with_pair (with_pair (with_pair (with_pair (push6 t.corner_opposite t.corners absent absent absent absent absent absent) c0 (t.corners + 1)) t.corners (t.corners + 4)) (t.corners + 3) c1) (t.corners + 5) (opposite t c1)) (t.corners + 2) (opposite t c0)

  unfoldable pub cv' : List ℕ
  cv' = set (push6 t.corner_vertex t.corners (vertex t c1) (vertex t c2) t.vertices (vertex t c2) (vertex t c0) t.vertices) c2 t.vertices

  unfoldable pub vc' : List ℕ
  vc' = set (set t.vertex_corner t.vertices c2) (vertex t c2) (t.corners + 1)

  abbrev pub t' : Table
  t' = table cv' co' (push6 t.corner_mark t.corners 0 0 0 0 0 0) vc' (set t.vertex_mark t.vertices 0) vp' (t.vertices + 1) (t.corners + 6)

  L : Linked (Live t) (opposite t) (vertex t)
  L = table_linked t Z W

  small : t.corners + 5 < absent
  small = omega (arith, Z.corner_most)

  -- an opposite of the face is outside it, and is no new corner
  outer_old : (x e : ℕ) → Live t x → t.corners ≤ e → e ≤ t.corners + 5 → opposite t x ≢ e
  outer_old x e h a b z =
      let l : Live t (opposite t x) = L.over x h (λ y. absurd (omega (arith, small))) in
      absurd (omega (arith, l.0))

  here : (x c : ℕ) → Live t c → (opposite t x ≢ absent → opposite t x ≢ c) → c ≢ opposite t x
  here x c h k z = k (λ y. L.present c h (z ∙ y)) (sym z)

  p00 : c0 ≢ opposite t c0
  p00 = here c0 c0 l0 (opp_not_self L c0 l0)

  p01 : c0 ≢ opposite t c1
  p01 = here c1 c0 l0 (λ y z. opp_not_previous L c1 l1 y (z ∙ sym f0.p1))

  p10 : c1 ≢ opposite t c0
  p10 = here c0 c1 l1 (λ y z. opp_not_next L c0 l0 y (z ∙ sym f0.n0))

  p11 : c1 ≢ opposite t c1
  p11 = here c1 c1 l1 (opp_not_self L c1 l1)

  x01 : c0 ≢ c1
  x01 z = next_differs c0 (f0.n0 ∙ sym z)

  G : ℕ → ℕ
  G = at (t.corners + 5) absent (at (t.corners + 4) absent (at (t.corners + 3) absent (at (t.corners + 2) absent (at (t.corners + 1) absent (at t.corners absent (opposite t))))))

  O3 : ℕ → ℕ
  O3 = at c1 (t.corners + 3) (at (t.corners + 3) c1 (at (t.corners + 4) t.corners (at t.corners (t.corners + 4) (at (t.corners + 1) c0 (at c0 (t.corners + 1) G)))))

  O5 : ℕ → ℕ
  O5 = at (opposite t c0) (t.corners + 2) (at (t.corners + 2) (opposite t c0) (at (opposite t c1) (t.corners + 5) (at (t.corners + 5) (opposite t c1) O3)))

  co_at : (d : ℕ) → d < t.corners + 6 → get_or co' d absent ≡ O5 d
  unfolding co' O5 O3 G
  co_at d h =
      let s : Seen t.corner_opposite (opposite t) absent d = record { inside = omega (arith, Z.corner_opposite_room); value = refl } in
      (paired_seen (t.corners + 2) (opposite t c0) (paired_seen (t.corners + 5) (opposite t c1) (paired_seen (t.corners + 3) c1 (paired_seen t.corners (t.corners + 4) (paired_seen c0 (t.corners + 1)
      (push6_seen t.corners absent absent absent absent absent absent s)))))).value

  -- past the two outer pairs
  past : (d : ℕ) → d < t.corners + 6 → d ≢ opposite t c0 → d ≢ t.corners + 2 → d ≢ opposite t c1 → d ≢ t.corners + 5 → get_or co' d absent ≡ O3 d
  unfolding O5
  past d h a b c e = co_at d h ∙ at_other _ _ _ _ a ∙ at_other _ _ _ _ b ∙ at_other _ _ _ _ c ∙ at_other _ _ _ _ e

  past_new : (d : ℕ) → t.corners ≤ d → d < t.corners + 6 → d ≢ t.corners + 2 → d ≢ t.corners + 5 → get_or co' d absent ≡ O3 d
  past_new d a b c e = past d b (λ z. outer_old c0 d l0 a (omega arith) (sym z)) c (λ z. outer_old c1 d l1 a (omega arith) (sym z)) e

  q0 : get_or co' c0 absent ≡ t.corners + 1
  unfolding O3
  q0 = past c0 (omega arith) p00 (omega arith) p01 (omega arith) ∙ at_other _ _ _ _ x01 ∙ at_other _ _ _ _ (omega arith) ∙ at_other _ _ _ _ (omega arith) ∙ at_other _ _ _ _ (omega arith) ∙ at_other _ _ _ _ (omega arith) ∙ at_same _ _ _

  q1 : get_or co' c1 absent ≡ t.corners + 3
  unfolding O3
  q1 = past c1 (omega arith) p10 (omega arith) p11 (omega arith) ∙ at_same _ _ _

  q3 : get_or co' t.corners absent ≡ t.corners + 4
  unfolding O3
  q3 = past_new t.corners (omega arith) (omega arith) (omega arith) (omega arith) ∙ at_other _ _ _ _ (omega arith) ∙ at_other _ _ _ _ (omega arith) ∙ at_other _ _ _ _ (omega arith) ∙ at_same _ _ _

  q4 : get_or co' (t.corners + 1) absent ≡ c0
  unfolding O3
  q4 = past_new (t.corners + 1) (omega arith) (omega arith) (omega arith) (omega arith) ∙ at_other _ _ _ _ (omega arith) ∙ at_other _ _ _ _ (omega arith) ∙ at_other _ _ _ _ (omega arith) ∙ at_other _ _ _ _ (omega arith) ∙ at_same _ _ _

  q6 : get_or co' (t.corners + 3) absent ≡ c1
  unfolding O3
  q6 = past_new (t.corners + 3) (omega arith) (omega arith) (omega arith) (omega arith) ∙ at_other _ _ _ _ (omega arith) ∙ at_same _ _ _

  q7 : get_or co' (t.corners + 4) absent ≡ t.corners
  unfolding O3
  q7 = past_new (t.corners + 4) (omega arith) (omega arith) (omega arith) (omega arith) ∙ at_other _ _ _ _ (omega arith) ∙ at_other _ _ _ _ (omega arith) ∙ at_same _ _ _

  q5 : get_or co' (t.corners + 2) absent ≡ opposite t c0
  unfolding O5
  q5 = co_at (t.corners + 2) (omega arith) ∙ at_other _ _ _ _ (λ z. outer_old c0 (t.corners + 2) l0 (omega arith) (omega arith) (sym z)) ∙ at_same _ _ _

  q8 : get_or co' (t.corners + 5) absent ≡ opposite t c1
  unfolding O5
  q8 = co_at (t.corners + 5) (omega arith) ∙ at_other _ _ _ _ (λ z. outer_old c0 (t.corners + 5) l0 (omega arith) (omega arith) (sym z)) ∙ at_other _ _ _ _ (omega arith)
      ∙ at_other _ _ _ _ (λ z. outer_old c1 (t.corners + 5) l1 (omega arith) (omega arith) (sym z)) ∙ at_same _ _ _

  over0 : (d : ℕ) → Live t d → opposite t d ≡ c0 → get_or co' d absent ≡ t.corners + 2
  unfolding O5
  over0 d h o =
      let b : opposite t c0 ≡ d = opp_of L d c0 h l0 o in
      co_at d (omega arith) ∙ ap O5 (sym b) ∙ at_same _ _ _

  over1 : (d : ℕ) → Live t d → opposite t d ≡ c1 → get_or co' d absent ≡ t.corners + 5
  unfolding O5
  over1 d h o =
      let b : opposite t c1 ≡ d = opp_of L d c1 h l1 o in
      co_at d (omega arith) ∙ at_other _ _ _ _ (λ z. x01 (sym (opp_of L c0 d l0 h (sym z)) ∙ o)) ∙ at_other _ _ _ _ (omega arith)
      ∙ ap (at (opposite t c1) (t.corners + 5) (at (t.corners + 5) (opposite t c1) O3)) (sym b) ∙ at_same _ _ _

  rest : (d : ℕ) → Live t d → d ≢ c0 → d ≢ c1 → opposite t d ≢ c0 → opposite t d ≢ c1 → get_or co' d absent ≡ opposite t d
  unfolding O3 G
  rest d h a b p q = past d (omega arith) (λ z. p (opp_of L c0 d l0 h (sym z))) (omega arith) (λ z. q (opp_of L c1 d l1 h (sym z))) (omega arith)
      ∙ at_other _ _ _ _ b ∙ at_other _ _ _ _ (omega arith) ∙ at_other _ _ _ _ (omega arith) ∙ at_other _ _ _ _ (omega arith) ∙ at_other _ _ _ _ (omega arith) ∙ at_other _ _ _ _ a
      ∙ push6_old t.corners absent absent absent absent absent absent (opposite t) d h.0

  -- the vertices
  N : ℕ → ℕ
  N = at (t.corners + 5) t.vertices (at (t.corners + 4) (vertex t c0) (at (t.corners + 3) (vertex t c2) (at (t.corners + 2) t.vertices (at (t.corners + 1) (vertex t c2) (at t.corners (vertex t c1) (vertex t))))))

  cv_at : (d : ℕ) → d < t.corners + 6 → get_or cv' d 0 ≡ at c2 t.vertices N d
  unfolding cv' N
  cv_at d h =
      let s : Seen t.corner_vertex (vertex t) 0 d = record { inside = omega (arith, Z.corner_vertex_room); value = refl } in
      (set_seen c2 t.vertices (push6_seen t.corners (vertex t c1) (vertex t c2) t.vertices (vertex t c2) (vertex t c0) t.vertices s)).value

  w2 : get_or cv' c2 0 ≡ t.vertices
  w2 = cv_at c2 (omega arith) ∙ at_same _ _ _

  vrest : (d : ℕ) → Live t d → d ≢ c2 → get_or cv' d 0 ≡ vertex t d
  unfolding N
  vrest d h a = cv_at d (omega arith) ∙ at_other _ _ _ _ a ∙ push6_old t.corners _ _ _ _ _ _ (vertex t) d h.0

  new_at : (d : ℕ) → t.corners ≤ d → d < t.corners + 6 → get_or cv' d 0 ≡ N d
  new_at d a b = cv_at d b ∙ at_other _ _ _ _ (omega (arith, l2.0))

  w3 : get_or cv' t.corners 0 ≡ vertex t c1
  unfolding N
  w3 = new_at t.corners (omega arith) (omega arith) ∙ at_other _ _ _ _ (omega arith) ∙ at_other _ _ _ _ (omega arith) ∙ at_other _ _ _ _ (omega arith) ∙ at_other _ _ _ _ (omega arith) ∙ at_other _ _ _ _ (omega arith) ∙ at_same _ _ _

  w4 : get_or cv' (t.corners + 1) 0 ≡ vertex t c2
  unfolding N
  w4 = new_at (t.corners + 1) (omega arith) (omega arith) ∙ at_other _ _ _ _ (omega arith) ∙ at_other _ _ _ _ (omega arith) ∙ at_other _ _ _ _ (omega arith) ∙ at_other _ _ _ _ (omega arith) ∙ at_same _ _ _

  w5 : get_or cv' (t.corners + 2) 0 ≡ t.vertices
  unfolding N
  w5 = new_at (t.corners + 2) (omega arith) (omega arith) ∙ at_other _ _ _ _ (omega arith) ∙ at_other _ _ _ _ (omega arith) ∙ at_other _ _ _ _ (omega arith) ∙ at_same _ _ _

  w6 : get_or cv' (t.corners + 3) 0 ≡ vertex t c2
  unfolding N
  w6 = new_at (t.corners + 3) (omega arith) (omega arith) ∙ at_other _ _ _ _ (omega arith) ∙ at_other _ _ _ _ (omega arith) ∙ at_same _ _ _

  w7 : get_or cv' (t.corners + 4) 0 ≡ vertex t c0
  unfolding N
  w7 = new_at (t.corners + 4) (omega arith) (omega arith) ∙ at_other _ _ _ _ (omega arith) ∙ at_same _ _ _

  w8 : get_or cv' (t.corners + 5) 0 ≡ t.vertices
  unfolding N
  w8 = new_at (t.corners + 5) (omega arith) (omega arith) ∙ at_same _ _ _

  fr : (d : ℕ) → t.corners ≤ d → d ≤ t.corners + 5 → Live t' d
  fr = fresh t W room

  pub the_cut : Cut (Live t) (Live t') (opposite t) (opposite t') (vertex t) (vertex t') c0 c1 c2 t.corners (t.corners + 1) (t.corners + 2) (t.corners + 3) (t.corners + 4) (t.corners + 5) t.vertices
  the_cut = record {
    f0 = f0;
    f3 = face3 t.corners (t.corners + 1) (t.corners + 2) (next6 t W room) (next7 t W room);
    f6 = face3 (t.corners + 3) (t.corners + 4) (t.corners + 5) (next9 t W room) (next10 t W room);
    alive = l0;
    old = λ d h. h.0;
    e4 = refl;
    e5 = refl;
    e6 = refl;
    e7 = refl;
    e8 = refl;
    small = small;
    fresh = λ d h z. absurd (omega (arith, (W.vertex_live d h).0));
    grow = grow t W room;
    l3 = fr t.corners (omega arith) (omega arith);
    l4 = fr (t.corners + 1) (omega arith) (omega arith);
    l5 = fr (t.corners + 2) (omega arith) (omega arith);
    l6 = fr (t.corners + 3) (omega arith) (omega arith);
    l7 = fr (t.corners + 4) (omega arith) (omega arith);
    l8 = fr (t.corners + 5) (omega arith) (omega arith);
    shrink = shrink t W room;
    o0 = q0;
    o4 = q4;
    o3 = q3;
    o7 = q7;
    o6 = q6;
    o1 = q1;
    o8 = q8;
    o5 = q5;
    over0 = over0;
    over1 = over1;
    rest = rest;
    v2 = w2;
    v3 = w3;
    v4 = w4;
    v5 = w5;
    v6 = w6;
    v7 = w7;
    v8 = w8;
    vrest = vrest;
  }

  new_vertex : (c : ℕ) → Live t' c → LiveVertex t' (get_or cv' c 0)
  new_vertex c h = go (shrink t W room c h)
    where
      one : (v x : ℕ) → v ≡ x → LiveVertex t' x → LiveVertex t' v
      one v x e k = subst (LiveVertex t') (sym e) k

      ov : (c : ℕ) → Live t c → LiveVertex t' (vertex t c)
      ov c k = old_vertex t W vroom (vertex t c) (W.vertex_live c k)

      was : Live t c → Dec (c ≡ c2) → LiveVertex t' (get_or cv' c 0)
      was k (yes z) = one _ _ (ap (λ (i : ℕ). get_or cv' i 0) z ∙ w2) (new_one t W vroom)
      was k (no z) = one _ _ (vrest c k z) (ov c k)

      go : Live t c ⊎ ((t.corners ≤ c) × (c ≤ t.corners + 5)) → LiveVertex t' (get_or cv' c 0)
      go (inl k) = was k (ℕ_discrete c c2)
      go (inr k) = in_six (λ d. LiveVertex t' (get_or cv' d 0)) t.corners (t.corners + 1) (t.corners + 2) (t.corners + 3) (t.corners + 4) (t.corners + 5) refl refl refl refl refl
          (one _ _ w3 (ov c1 l1)) (one _ _ w4 (ov c2 l2)) (one _ _ w5 (new_one t W vroom)) (one _ _ w6 (ov c2 l2)) (one _ _ w7 (ov c0 l0)) (one _ _ w8 (new_one t W vroom)) c k.0 k.1

  vc_at : (v : ℕ) → v < t.vertices + 1 → get_or vc' v absent ≡ at (vertex t c2) (t.corners + 1) (at t.vertices c2 (corner t)) v
  unfolding vc'
  vc_at v h =
      let s : Seen t.vertex_corner (corner t) absent v = record { inside = omega (arith, Z.vertex_corner_room); value = refl } in
      (set_seen (vertex t c2) (t.corners + 1) (set_seen t.vertices c2 s)).value

  naming : (v : ℕ) → LiveVertex t' v → Live t' (get_or vc' v absent) × (get_or cv' (get_or vc' v absent) 0 ≡ v)
  naming v h = rw (vc_at v h.0) (at_ind Q (vertex t c2) (t.corners + 1) _ v (λ e. (fr (t.corners + 1) (omega arith) (omega arith), w4 ∙ sym e)) (λ a.
      at_ind Q t.vertices c2 _ v (λ e. (grow t W room c2 l2, w2 ∙ sym e)) (λ b.
      let k : LiveVertex t v = was_vertex t W vroom v h b in
      (grow t W room (corner t v) (W.corner_live v k), vrest (corner t v) (W.corner_live v k) (λ z. a (sym (W.corner_own v k) ∙ ap (vertex t) z)) ∙ W.corner_own v k))))
    where
      Q : ℕ → Type 0
      Q c = Live t' c × (get_or cv' c 0 ≡ v)

  cut_table : WellFormed t'
  cut_table =
      let L' : Linked (Live t') (opposite t') (vertex t') = cut_linked L the_cut in
      let named : (v : ℕ) → LiveVertex t' v → Live t' (corner t' v) = λ v h. (naming v h).0 in
      let names : (v : ℕ) → LiveVertex t' v → vertex t' (corner t' v) ≡ v = λ v h. (naming v h).1 in
      record {
        corners_fit = simp length-set room;
        vertices_fit = simp length-set vroom;
        thirds = omega (arith, W.thirds);
        corner_marks = corner_marks_lem t W room;
        face_marks = face_marks_lem t W room;
        vertex_marks = vertex_marks_lem t W vroom;
        vertex_live = new_vertex;
        differ = L'.differ;
        mate = λ c h m. record { over = L'.over c h m; pair = L'.pair c h m; tail = L'.tail c h m; head = L'.head c h m };
        corner_live = named;
        corner_own = names;
        finite = good;
        one_fan = fan_table t' (cut_fan L the_cut (table_fan t Z W)) new_vertex named names L';
      }

-- a face split with room keeps the table well-formed
pub cut_wf : (t : Table) → Shaped t → WellFormed t → t.corners + 6 ≤ length t.corner_mark → t.vertices + 1 ≤ length t.vertex_mark
    → (f : ℕ) → Live t (first_corner f) → (at : Point) → finite_point at ≡ true → WellFormed (split_face t f at)
unfolding split_face triangle face_vertices face_opposites face_corners co' cv' vc'
cut_wf t Z W r s f h at good =
    let L : Linked (Live t) (opposite t) (vertex t) = table_linked t Z W in
    let c : ℕ = first_corner f in
    simp six_push6
    (cut_table t Z W r s c (next c) (next (next c)) (face3 c (next c) (next (next c)) refl refl) h (L.face c h) (L.face (next c) (L.face c h))
    (with_point t.vertex_point t.vertices at) (placed_finite t W s Z at good))
