-- The split of an inner edge on the lists. Assumes nothing.
use mathlib.Core.Bool.{true}
use lib.Ieee.{Float}
use mathlib.Core.Path.{◌≡◌, refl, ap, sym, ◌∙◌, subst}
use mathlib.Core.Logic.{◌≢◌, ◌⊎◌, inl, inr}
use mathlib.Core.List.{List, Memᴰ}
use Prim.Native.Nat.{ℕ, ◌+◌, ◌≤◌, ◌<◌}
use native.Mathlib.Omega.{arith}
use native.Mathlib.Decide.{ℕ_discrete}
use lib.ListN.{length, get_or, set, length-set}
use Rattle.corner.specs.Corner.{next}
use Rattle.corner.specs.Corner.{absent}
use Rattle.fan.proofs.Fan.{Linked, opp_of, opp_not_self}
use Rattle.edit_keeps.proofs.SplitFace.{face3}
use Rattle.fan.proofs.Redirect.{at, at_same, at_other, at_ind, Seen, set_seen}
use Rattle.table.specs.Slots.{relabel}
use Rattle.fan.proofs.Relabel.{relabel_in, relabel_out}
use Rattle.fan.proofs.Visits.{Sound}
use Rattle.ring.specs.Ring.{ring}
use Rattle.ring.proofs.Exact.{ring_sound}
use Rattle.edit_keeps.proofs.Without.{without_to, without_from}
use Rattle.edit_plans.specs.Plans.{around}
use Rattle.edit_split_edge.specs.SplitEdge.{without, split_points, split_corners, inner_vertices, inner_opposites, split_inner_edge}
use Rattle.vertex.specs.declared.Point.{Point}
use Rattle.vertex.specs.Point.{finite_point}
use Rattle.table.specs.Table.{Table, table, Live, LiveVertex, opposite, vertex, corner, Shaped}
use Rattle.table.specs.Rules.{WellFormed}
use Rattle.table.specs.Slots.{with_pair, point_at}
use Rattle.fan.proofs.Tables.{table_linked, table_fan, fan_table}
use Rattle.edit_keeps.proofs.Writes.{paired_seen, push6, push6_seen, push6_old, six_push6}
use Rattle.edit_keeps.proofs.NewFaces.{grow, fresh, shrink, corner_marks_lem, face_marks_lem, next6, next7, next9, next10}
use Rattle.edit_keeps.proofs.NewVertex.{LiveV1, old_vertex, new_one, was_vertex, vertex_marks_lem, split_finite}
use Rattle.edit_keeps.proofs.Site.{Site, site, l2, l0, l4, l5, l3, e2, x0_5}
use Rattle.edit_keeps.proofs.SplitInner.{Split, split_linked, split_fan, in_six}

module _ (t : Table) (Z : Shaped t) (W : WellFormed t) (room : t.corners + 6 ≤ length t.corner_mark) (vroom : t.vertices + 1 ≤ length t.vertex_mark)
    (c1 c2 c0 c4 c5 c3 : ℕ) (A : Site (Live t) (opposite t) c1 c2 c0 c4 c5 c3)
    (vp' : List Float) (good : (v : ℕ) → LiveV1 t v → finite_point (point_at vp' v) ≡ true) where
  abbrev pub n : ℕ
  n = t.corners

  abbrev pub u : ℕ
  u = t.vertices

  L : Linked (Live t) (opposite t) (vertex t)
  L = table_linked t Z W

  sound : Sound (Live t) (vertex t) n c2 (ring t.corner_opposite n c2)
  sound = ring_sound t Z W c2 (l2 L A)

  unfoldable pub cs : List ℕ
  cs = without c3 (without c2 (ring t.corner_opposite n c2))

  -- who is renumbered: the ring of c2 but c2 and c3
  among : (d : ℕ) → Memᴰ d cs → Memᴰ d (ring t.corner_opposite n c2) × ((d ≢ c2) × (d ≢ c3))
  unfolding cs
  among d z =
      let a = without_from c3 (without c2 (ring t.corner_opposite n c2)) d z in
      let b = without_from c2 (ring t.corner_opposite n c2) d a.0 in
      (b.0, (b.1, a.1))

  into : (d : ℕ) → Memᴰ d (ring t.corner_opposite n c2) → d ≢ c2 → d ≢ c3 → Memᴰ d cs
  unfolding cs
  into d m a b = without_to c3 (without c2 (ring t.corner_opposite n c2)) d (without_to c2 (ring t.corner_opposite n c2) d m a) b

  unfoldable pub cv0 : List ℕ
  cv0 = push6 t.corner_vertex n (vertex t c1) u (vertex t c2) u (vertex t c4) (vertex t c2)

  unfoldable pub cv' : List ℕ
  cv' = relabel cs u cv0

  unfoldable pub co0 : List ℕ
  co0 = push6 t.corner_opposite n absent absent absent absent absent absent

  unfoldable pub o1 : List ℕ
  o1 = with_pair co0 (opposite t c0) (n + 2)

  unfoldable pub b5 : ℕ
  b5 = get_or o1 c5 absent

  unfoldable pub co' : List ℕ
  co' = with_pair (with_pair (with_pair (with_pair o1 b5 (n + 5)) c0 (n + 1)) c5 (n + 3)) n (n + 4)

  abbrev pub cm' : List ℕ
  cm' = push6 t.corner_mark n 0 0 0 0 0 0

  unfoldable pub vc' : List ℕ
  vc' = set (set t.vertex_corner (vertex t c2) c2) u (n + 1)

  abbrev pub vm' : List ℕ
  vm' = set t.vertex_mark u 0

  abbrev pub t' : Table
  t' = table cv' co' cm' vc' vm' vp' (u + 1) (n + 6)

  small : n + 5 < absent
  small = omega (arith, Z.corner_most)

  G : ℕ → ℕ
  G = at (n + 5) absent (at (n + 4) absent (at (n + 3) absent (at (n + 2) absent (at (n + 1) absent (at n absent (opposite t))))))

  O1 : ℕ → ℕ
  O1 = at (n + 2) (opposite t c0) (at (opposite t c0) (n + 2) G)

  O5 : ℕ → ℕ
  O5 = at (n + 4) n (at n (n + 4) (at (n + 3) c5 (at c5 (n + 3) (at (n + 1) c0 (at c0 (n + 1) (at (n + 5) b5 (at b5 (n + 5) O1)))))))

  co_seen : (d : ℕ) → d < n + 6 → Seen co0 G absent d
  unfolding co0 G
  co_seen d h =
      let s : Seen t.corner_opposite (opposite t) absent d = record { inside = omega (arith, Z.corner_opposite_room); value = refl } in
      push6_seen t.corners absent absent absent absent absent absent s

  o1_seen : (d : ℕ) → d < n + 6 → Seen o1 O1 absent d
  unfolding o1 O1
  o1_seen d h = paired_seen (opposite t c0) (n + 2) (co_seen d h)

  co_at : (d : ℕ) → d < n + 6 → get_or co' d absent ≡ O5 d
  unfolding co' O5
  co_at d h = (paired_seen n (n + 4) (paired_seen c5 (n + 3) (paired_seen c0 (n + 1) (paired_seen b5 (n + 5) (o1_seen d h))))).value

  G_old : (d : ℕ) → d < n → G d ≡ opposite t d
  unfolding G
  G_old d h = push6_old n absent absent absent absent absent absent (opposite t) d h

  -- an old opposite is no new corner
  outer_old : (x e : ℕ) → Live t x → n ≤ e → e ≤ n + 5 → opposite t x ≢ e
  outer_old x e h a b z =
      let l : Live t (opposite t x) = L.over x h (λ y. absurd (omega (arith, small))) in
      absurd (omega (arith, l.0))

  module _ (i0 : c0 < n) (i5 : c5 < n) (x05 : c0 ≢ c5) where
    g2 : opposite t c0 ≢ n + 2
    g2 = outer_old c0 (n + 2) (l0 L A) (omega arith) (omega arith)

    b5_far : opposite t c0 ≢ c5 → b5 ≡ opposite t c5
    unfolding b5 O1
    b5_far m = (o1_seen c5 (omega arith)).value ∙ at_other _ _ _ _ (omega arith) ∙ at_other _ _ _ _ (λ z. m (sym z)) ∙ G_old c5 i5

    b5_near : opposite t c0 ≡ c5 → b5 ≡ n + 2
    unfolding b5 O1
    b5_near m = (o1_seen c5 (omega arith)).value ∙ at_other _ _ _ _ (omega arith) ∙ ap (at (opposite t c0) (n + 2) G) (sym m) ∙ at_same _ _ _

    q0 : get_or co' c0 absent ≡ n + 1
    unfolding O5
    q0 = co_at c0 (omega arith) ∙ at_other _ _ _ _ (omega arith) ∙ at_other _ _ _ _ (omega arith) ∙ at_other _ _ _ _ (omega arith) ∙ at_other _ _ _ _ x05 ∙ at_other _ _ _ _ (omega arith) ∙ at_same _ _ _

    q7 : get_or co' (n + 1) absent ≡ c0
    unfolding O5
    q7 = co_at (n + 1) (omega arith) ∙ at_other _ _ _ _ (omega arith) ∙ at_other _ _ _ _ (omega arith) ∙ at_other _ _ _ _ (omega arith) ∙ at_other _ _ _ _ (omega arith) ∙ at_same _ _ _

    q5 : get_or co' c5 absent ≡ n + 3
    unfolding O5
    q5 = co_at c5 (omega arith) ∙ at_other _ _ _ _ (omega arith) ∙ at_other _ _ _ _ (omega arith) ∙ at_other _ _ _ _ (omega arith) ∙ at_same _ _ _

    q9 : get_or co' (n + 3) absent ≡ c5
    unfolding O5
    q9 = co_at (n + 3) (omega arith) ∙ at_other _ _ _ _ (omega arith) ∙ at_other _ _ _ _ (omega arith) ∙ at_same _ _ _

    q6 : get_or co' n absent ≡ n + 4
    unfolding O5
    q6 = co_at n (omega arith) ∙ at_other _ _ _ _ (omega arith) ∙ at_same _ _ _

    q10 : get_or co' (n + 4) absent ≡ n
    unfolding O5
    q10 = co_at (n + 4) (omega arith) ∙ at_same _ _ _

    -- past the last six writes
    past : (d : ℕ) → d < n + 6 → d ≢ n + 4 → d ≢ n → d ≢ n + 3 → d ≢ c5 → d ≢ n + 1 → d ≢ c0 → get_or co' d absent ≡ at (n + 5) b5 (at b5 (n + 5) O1) d
    unfolding O5
    past d h a b c e f g = co_at d h ∙ at_other _ _ _ _ a ∙ at_other _ _ _ _ b ∙ at_other _ _ _ _ c ∙ at_other _ _ _ _ e ∙ at_other _ _ _ _ f ∙ at_other _ _ _ _ g

    q8 : opposite t c0 ≢ c5 → get_or co' (n + 2) absent ≡ opposite t c0
    unfolding O1
    q8 m = past (n + 2) (omega arith) (omega arith) (omega arith) (omega arith) (omega arith) (omega arith) (omega arith) ∙ at_other _ _ _ _ (omega arith)
        ∙ at_other _ _ _ _ (λ z. outer_old c5 (n + 2) (l5 L A) (omega arith) (omega arith) (sym (z ∙ b5_far m))) ∙ at_same _ _ _

    q11 : opposite t c0 ≢ c5 → get_or co' (n + 5) absent ≡ opposite t c5
    q11 m = past (n + 5) (omega arith) (omega arith) (omega arith) (omega arith) (omega arith) (omega arith) (omega arith) ∙ at_same _ _ _ ∙ b5_far m

    q8' : opposite t c0 ≡ c5 → get_or co' (n + 2) absent ≡ n + 5
    q8' m = past (n + 2) (omega arith) (omega arith) (omega arith) (omega arith) (omega arith) (omega arith) (omega arith) ∙ at_other _ _ _ _ (omega arith)
        ∙ ap (at b5 (n + 5) O1) (sym (b5_near m)) ∙ at_same _ _ _

    q11' : opposite t c0 ≡ c5 → get_or co' (n + 5) absent ≡ n + 2
    q11' m = past (n + 5) (omega arith) (omega arith) (omega arith) (omega arith) (omega arith) (omega arith) (omega arith) ∙ at_same _ _ _ ∙ b5_near m

    -- an old corner away from the six
    past_old : (d : ℕ) → Live t d → d ≢ c0 → d ≢ c5 → d ≢ b5 → get_or co' d absent ≡ O1 d
    past_old d h a b c = past d (omega arith) (omega arith) (omega arith) (omega arith) b (omega arith) a ∙ at_other _ _ _ _ (omega arith) ∙ at_other _ _ _ _ c

    over0 : (d : ℕ) → Live t d → d ≢ c5 → opposite t d ≡ c0 → get_or co' d absent ≡ n + 2
    unfolding O1
    over0 d h m o =
        let b : opposite t c0 ≡ d = opp_of L d c0 h (l0 L A) o in
        let a : d ≢ c0 = λ z. opp_not_self L c0 (l0 L A) (λ y. L.present d h (sym b ∙ y)) (b ∙ z) in
        let f : opposite t c0 ≢ c5 = λ z. m (sym b ∙ z) in
        let c : d ≢ b5 = λ z. x05 (sym o ∙ opp_of L c5 d (l5 L A) h (sym (z ∙ b5_far f))) in
        past_old d h a m c ∙ at_other _ _ _ _ (omega arith) ∙ ap (at (opposite t c0) (t.corners + 2) G) (sym b) ∙ at_same _ _ _

    over5 : (d : ℕ) → Live t d → d ≢ c0 → opposite t d ≡ c5 → get_or co' d absent ≡ n + 5
    over5 d h m o =
        let b : opposite t c5 ≡ d = opp_of L d c5 h (l5 L A) o in
        let a : d ≢ c5 = λ z. opp_not_self L c5 (l5 L A) (λ y. L.present d h (sym b ∙ y)) (b ∙ z) in
        let f : opposite t c0 ≢ c5 = λ z. m (sym b ∙ opp_of L c0 c5 (l0 L A) (l5 L A) z) in
        past d (omega arith) (omega arith) (omega arith) (omega arith) a (omega arith) m ∙ at_other _ _ _ _ (omega arith)
        ∙ ap (at b5 (t.corners + 5) O1) (sym (b5_far f ∙ b)) ∙ at_same _ _ _

    rest : (d : ℕ) → Live t d → d ≢ c0 → d ≢ c5 → opposite t d ≢ c0 → opposite t d ≢ c5 → get_or co' d absent ≡ opposite t d
    unfolding O1
    rest d h a b p q = past_old d h a b off ∙ at_other _ _ _ _ (omega arith) ∙ at_other _ _ _ _ (λ z. p (opp_of L c0 d (l0 L A) h (sym z))) ∙ G_old d h.0
      where
        off : d ≢ b5
        off z = go (ℕ_discrete (opposite t c0) c5)
          where
            go : Dec (opposite t c0 ≡ c5) → ⊥
            go (yes y) = absurd (omega (arith, b5_near y, h.0))
            go (no y) = q (opp_of L c5 d (l5 L A) h (sym (z ∙ b5_far y)))

    -- the vertices
    cv_new : ℕ → ℕ
    cv_new = at (n + 5) (vertex t c2) (at (n + 4) (vertex t c4) (at (n + 3) u (at (n + 2) (vertex t c2) (at (n + 1) u (at n (vertex t c1) (vertex t))))))

    cv_seen : (d : ℕ) → d < n + 6 → Seen cv0 cv_new 0 d
    unfolding cv0 cv_new
    cv_seen d h =
        let s : Seen t.corner_vertex (vertex t) 0 d = record { inside = omega (arith, Z.corner_vertex_room); value = refl } in
        push6_seen t.corners (vertex t c1) u (vertex t c2) u (vertex t c4) (vertex t c2) s

    cv_old : (d : ℕ) → d < n → get_or cv0 d 0 ≡ vertex t d
    unfolding cv_new
    cv_old d h = (cv_seen d (omega arith)).value ∙ push6_old n (vertex t c1) u (vertex t c2) u (vertex t c4) (vertex t c2) (vertex t) d h

    -- only live corners of the old vertex are renumbered
    not_in : (d : ℕ) → ¬ (Live t d × (vertex t d ≡ vertex t c2)) → ¬ Memᴰ d cs
    unfolding cs
    not_in d m z = m (sound.from d (among d z).0)

    kept_new : (d : ℕ) → n ≤ d → d < n + 6 → get_or cv' d 0 ≡ cv_new d
    unfolding cv'
    kept_new d a b = relabel_out cs u cv0 d 0 (not_in d (λ h. absurd (omega (arith, h.0.0)))) ∙ (cv_seen d b).value

    w2 : get_or cv' c2 0 ≡ vertex t c2
    unfolding cv' cs
    w2 = relabel_out cs u cv0 c2 0 (λ z. (among c2 z).1.0 refl) ∙ cv_old c2 (l2 L A).0

    w3 : get_or cv' c3 0 ≡ vertex t c2
    unfolding cv' cs
    w3 = relabel_out cs u cv0 c3 0 (λ z. (among c3 z).1.1 refl) ∙ cv_old c3 (l3 L A).0 ∙ e2 L A

    wu : (d : ℕ) → Live t d → d ≢ c2 → d ≢ c3 → vertex t d ≡ vertex t c2 → get_or cv' d 0 ≡ u
    unfolding cv' cs
    wu d h a b e = relabel_in cs u cv0 d 0 (cv_seen d (omega arith)).inside (into d (sound.to d h e) a b)

    wr : (d : ℕ) → Live t d → vertex t d ≢ vertex t c2 → get_or cv' d 0 ≡ vertex t d
    unfolding cv'
    wr d h e = relabel_out cs u cv0 d 0 (not_in d (λ z. e z.1)) ∙ cv_old d h.0

    u6 : get_or cv' n 0 ≡ vertex t c1
    unfolding cv_new
    u6 = kept_new n (omega arith) (omega arith) ∙ at_other _ _ _ _ (omega arith) ∙ at_other _ _ _ _ (omega arith) ∙ at_other _ _ _ _ (omega arith) ∙ at_other _ _ _ _ (omega arith) ∙ at_other _ _ _ _ (omega arith) ∙ at_same _ _ _

    u7 : get_or cv' (n + 1) 0 ≡ u
    unfolding cv_new
    u7 = kept_new (n + 1) (omega arith) (omega arith) ∙ at_other _ _ _ _ (omega arith) ∙ at_other _ _ _ _ (omega arith) ∙ at_other _ _ _ _ (omega arith) ∙ at_other _ _ _ _ (omega arith) ∙ at_same _ _ _

    u8 : get_or cv' (n + 2) 0 ≡ vertex t c2
    unfolding cv_new
    u8 = kept_new (n + 2) (omega arith) (omega arith) ∙ at_other _ _ _ _ (omega arith) ∙ at_other _ _ _ _ (omega arith) ∙ at_other _ _ _ _ (omega arith) ∙ at_same _ _ _

    u9 : get_or cv' (n + 3) 0 ≡ u
    unfolding cv_new
    u9 = kept_new (n + 3) (omega arith) (omega arith) ∙ at_other _ _ _ _ (omega arith) ∙ at_other _ _ _ _ (omega arith) ∙ at_same _ _ _

    u10 : get_or cv' (n + 4) 0 ≡ vertex t c4
    unfolding cv_new
    u10 = kept_new (n + 4) (omega arith) (omega arith) ∙ at_other _ _ _ _ (omega arith) ∙ at_same _ _ _

    u11 : get_or cv' (n + 5) 0 ≡ vertex t c2
    unfolding cv_new
    u11 = kept_new (n + 5) (omega arith) (omega arith) ∙ at_same _ _ _

    no_old : (d : ℕ) → Live t d → vertex t d ≢ u
    no_old d h = omega (arith, (W.vertex_live d h).0)

    pub the_split : Split (Live t) (Live t') (opposite t) (opposite t') (vertex t) (vertex t') c1 c2 c0 c4 c5 c3 n (n + 1) (n + 2) (n + 3) (n + 4) (n + 5) u
    the_split = record {
      h = face3 n (n + 1) (n + 2) (next6 t W room) (next7 t W room);
      k = face3 (n + 3) (n + 4) (n + 5) (next9 t W room) (next10 t W room);
      old = λ d h. h.0;
      e7 = refl;
      e8 = refl;
      e9 = refl;
      e10 = refl;
      e11 = refl;
      small = small;
      fresh = no_old;
      grow = grow t W room;
      l6 = fresh t W room n (omega arith) (omega arith);
      l7 = fresh t W room (n + 1) (omega arith) (omega arith);
      l8 = fresh t W room (n + 2) (omega arith) (omega arith);
      l9 = fresh t W room (n + 3) (omega arith) (omega arith);
      l10 = fresh t W room (n + 4) (omega arith) (omega arith);
      l11 = fresh t W room (n + 5) (omega arith) (omega arith);
      shrink = shrink t W room;
      n0 = q0;
      n7 = q7;
      n5 = q5;
      n9 = q9;
      n6 = q6;
      n10 = q10;
      n8 = q8;
      n11 = q11;
      n8' = q8';
      n11' = q11';
      over0 = over0;
      over5 = over5;
      rest = rest;
      w2 = w2;
      w3 = w3;
      w6 = u6;
      w7 = u7;
      w8 = u8;
      w9 = u9;
      w10 = u10;
      w11 = u11;
      wu = wu;
      wr = wr;
    }

    new_vertex : (c : ℕ) → Live t' c → LiveVertex t' (get_or cv' c 0)
    new_vertex c h = go (shrink t W room c h)
      where
        one : (v x : ℕ) → v ≡ x → LiveVertex t' x → LiveVertex t' v
        one v x e k = subst (LiveVertex t') (sym e) k

        v1 : LiveVertex t' (vertex t c1)
        v1 = old_vertex t W vroom (vertex t c1) (W.vertex_live c1 A.alive)

        v2 : LiveVertex t' (vertex t c2)
        v2 = old_vertex t W vroom (vertex t c2) (W.vertex_live c2 (l2 L A))

        v4 : LiveVertex t' (vertex t c4)
        v4 = old_vertex t W vroom (vertex t c4) (W.vertex_live c4 (l4 L A))

        was : Live t c → Dec (vertex t c ≡ vertex t c2) → Dec (c ≡ c2) → Dec (c ≡ c3) → LiveVertex t' (get_or cv' c 0)
        was k (no e) p q = one _ _ (wr c k e) (old_vertex t W vroom (vertex t c) (W.vertex_live c k))
        was k (yes e) (yes z) q = one _ _ (ap (λ (i : ℕ). get_or cv' i 0) z ∙ w2) v2
        was k (yes e) (no z) (yes y) = one _ _ (ap (λ (i : ℕ). get_or cv' i 0) y ∙ w3) v2
        was k (yes e) (no z) (no y) = one _ _ (wu c k z y e) (new_one t W vroom)

        go : Live t c ⊎ ((n ≤ c) × (c ≤ n + 5)) → LiveVertex t' (get_or cv' c 0)
        go (inl k) = was k (ℕ_discrete (vertex t c) (vertex t c2)) (ℕ_discrete c c2) (ℕ_discrete c c3)
        go (inr k) = in_six (λ d. LiveVertex t' (get_or cv' d 0)) n (n + 1) (n + 2) (n + 3) (n + 4) (n + 5) refl refl refl refl refl
            (one _ _ u6 v1) (one _ _ u7 (new_one t W vroom)) (one _ _ u8 v2) (one _ _ u9 (new_one t W vroom)) (one _ _ u10 v4) (one _ _ u11 v2) c k.0 k.1

    vc_seen : (v : ℕ) → v < u + 1 → get_or vc' v absent ≡ at u (n + 1) (at (vertex t c2) c2 (corner t)) v
    unfolding vc'
    vc_seen v h =
        let s : Seen t.vertex_corner (corner t) absent v = record { inside = omega (arith, Z.vertex_corner_room); value = refl } in
        (set_seen t.vertices (n + 1) (set_seen (vertex t c2) c2 s)).value

    naming : (v : ℕ) → LiveVertex t' v → Live t' (get_or vc' v absent) × (get_or cv' (get_or vc' v absent) 0 ≡ v)
    naming v h = rw (vc_seen v h.0) (at_ind Q u (n + 1) _ v (λ e. (fresh t W room (n + 1) (omega arith) (omega arith), u7 ∙ sym e)) (λ a.
        at_ind Q (vertex t c2) c2 _ v (λ e. (grow t W room c2 (l2 L A), w2 ∙ sym e)) (λ b.
        let k : LiveVertex t v = was_vertex t W vroom v h a in
        (grow t W room (corner t v) (W.corner_live v k), wr (corner t v) (W.corner_live v k) (λ z. b (sym (W.corner_own v k) ∙ z)) ∙ W.corner_own v k))))
      where
        Q : ℕ → Type 0
        Q c = Live t' c × (get_or cv' c 0 ≡ v)

    pub split_table : WellFormed t'
    split_table =
        let L' : Linked (Live t') (opposite t') (vertex t') = split_linked L A the_split in
        let named : (v : ℕ) → LiveVertex t' v → Live t' (corner t' v) = λ v h. (naming v h).0 in
        let names : (v : ℕ) → LiveVertex t' v → vertex t' (corner t' v) ≡ v = λ v h. (naming v h).1 in
        record {
          corners_fit = simp length-set room;
          vertices_fit = simp length-set vroom;
          thirds = omega (arith, W.thirds);
          corner_marks = corner_marks_lem t W room;
          face_marks = face_marks_lem t W room;
          vertex_marks = vertex_marks_lem t W vroom;
          finite = good;
          vertex_live = new_vertex;
          differ = L'.differ;
          mate = λ c h m. record { over = L'.over c h m; pair = L'.pair c h m; tail = L'.tail c h m; head = L'.head c h m };
          corner_live = named;
          corner_own = names;
          one_fan = fan_table t' (split_fan L A the_split (table_fan t Z W)) new_vertex named names L';
        }

-- a split of an inner edge with room keeps the table well-formed
pub split_wf : (t : Table) → Shaped t → WellFormed t → t.corners + 6 ≤ length t.corner_mark → t.vertices + 1 ≤ length t.vertex_mark
    → (c : ℕ) → Live t c → opposite t c ≢ absent → (at : Point) → finite_point at ≡ true → WellFormed (split_inner_edge t c at)
unfolding split_inner_edge around inner_vertices inner_opposites split_corners cs cv0 cv' co0 o1 b5 co' vc'
split_wf t Z W r s c h m at f =
    let A = site (opposite t) c h m in
    let L : Linked (Live t) (opposite t) (vertex t) = table_linked t Z W in
    simp six_push6
    (split_table t Z W r s c (next c) (next (next c)) (opposite t c) (next (opposite t c)) (next (next (opposite t c))) A
    (split_points (vertex t (next c)) t.vertices at t.vertex_point) (split_finite t W s Z (vertex t (next c)) (W.vertex_live (next c) (l2 L A)) at f)
    (l0 L A).0 (l5 L A).0 (x0_5 L A))
