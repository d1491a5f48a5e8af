-- The split of a border edge on the lists. Assumes nothing.
use mathlib.Core.Bool.{true}
use lib.Ieee.{Float}
use mathlib.Core.Path.{◌≡◌, refl, ap, sym, ◌∙◌, subst}
use mathlib.Core.Logic.{◌≢◌, ◌⊎◌, inl, inr}
use mathlib.Core.List.{List, Memᴰ}
use Prim.Native.Nat.{ℕ, ◌+◌, ◌≤◌, ◌<◌, ◌%◌}
use native.Mathlib.Omega.{arith}
use native.Mathlib.Decide.{ℕ_discrete, dec_lt}
use lib.ListN.{length, get_or, set, length-set}
use Rattle.corner.specs.Corner.{next, previous}
use Rattle.corner.proofs.Turns.{next_below, next_first, next_second, next_last, next_previous, next_three}
use Rattle.corner.specs.Corner.{absent}
use Rattle.fan.proofs.Fan.{Linked, opp_of, opp_not_self, face_previous}
use Rattle.edit_keeps.proofs.SplitFace.{Face3, face3}
use Rattle.edit_keeps.proofs.SplitBorder.{Rim, rim_linked, rim_fan}
use Rattle.fan.proofs.Redirect.{at, at_same, at_other, at_ind, Seen, set_seen}
use Rattle.table.specs.Slots.{relabel}
use Rattle.fan.proofs.Relabel.{relabel_in, relabel_out}
use Rattle.fan.proofs.Visits.{Sound}
use Rattle.ring.specs.Ring.{ring}
use Rattle.ring.proofs.Exact.{ring_sound}
use Rattle.edit_keeps.proofs.Without.{without_to, without_from}
use Rattle.edit_plans.specs.Plans.{triangle}
use Rattle.edit_split_edge.specs.SplitEdge.{without, split_points, split_corners, boundary_vertices, boundary_opposites, split_boundary_edge}
use Rattle.vertex.specs.declared.Point.{Point}
use Rattle.vertex.specs.Point.{finite_point}
use Rattle.table.specs.Table.{Table, table, Live, LiveVertex, opposite, vertex, corner, Shaped}
use Rattle.table.specs.Rules.{WellFormed}
use Rattle.table.specs.Slots.{with_pair, three, mark_at, point_at}
use Rattle.fan.proofs.Tables.{table_linked, table_fan, fan_table}
use Rattle.edit_keeps.proofs.Writes.{paired_seen, three_seen, three_old, in_three, marks_grown}
use Rattle.edit_keeps.proofs.NewVertex.{LiveV1, old_vertex, new_one, was_vertex, vertex_marks_lem, split_finite}

module _ (t : Table) (Z : Shaped t) (W : WellFormed t) (room : t.corners + 3 ≤ length t.corner_mark) (vroom : t.vertices + 1 ≤ length t.vertex_mark)
    (c1 c2 c0 : ℕ) (f : Face3 c1 c2 c0) (l1 : Live t c1) (l2 : Live t c2) (l0 : Live t c0) (bd : opposite t c1 ≡ absent)
    (vp' : List Float) (good : (v : ℕ) → LiveV1 t v → finite_point (point_at vp' v) ≡ true) where
  unfoldable pub cs : List ℕ
  cs = without c2 (ring t.corner_opposite t.corners c2)

  unfoldable pub cv' : List ℕ
  cv' = relabel cs t.vertices (three t.corner_vertex t.corners (vertex t c1) t.vertices (vertex t c2))

  unfoldable pub co' : List ℕ
  co' = with_pair (with_pair (three t.corner_opposite t.corners absent absent absent) (opposite t c0) (t.corners + 2)) c0 (t.corners + 1)

  unfoldable pub vc' : List ℕ
  vc' = set (set t.vertex_corner (vertex t c2) c2) t.vertices (t.corners + 1)

  abbrev pub t' : Table
  t' = table cv' co' (three t.corner_mark t.corners 0 0 0) vc' (set t.vertex_mark t.vertices 0) vp' (t.vertices + 1) (t.corners + 3)

  L : Linked (Live t) (opposite t) (vertex t)
  L = table_linked t Z W

  small : t.corners + 2 < absent
  small = omega (arith, Z.corner_most)

  -- marks
  M : ℕ → ℕ
  M = at (t.corners + 2) 0 (at (t.corners + 1) 0 (at t.corners 0 (λ d. get_or t.corner_mark d 1)))

  seen : (d : ℕ) → d < t.corners + 3 → get_or (three t.corner_mark t.corners 0 0 0) d 1 ≡ M d
  unfolding M
  seen d h =
      let s : Seen t.corner_mark (λ d. get_or t.corner_mark d 1) 1 d = record { inside = omega arith; value = refl } in
      (three_seen t.corners 0 0 0 s).value

  M_old : (d : ℕ) → d < t.corners → M d ≡ get_or t.corner_mark d 1
  unfolding M
  M_old d h = three_old t.corners 0 0 0 _ d h

  pub grow : (d : ℕ) → Live t d → Live t' d
  grow d h = (omega arith, seen d (omega arith) ∙ M_old d h.0 ∙ h.1)

  pub fresh : (d : ℕ) → t.corners ≤ d → d ≤ t.corners + 2 → Live t' d
  unfolding M
  fresh d a b = (
    omega arith,
    seen d (omega arith) ∙ in_three (λ d. M d ≡ 0) t.corners
        (at_other _ _ _ _ (omega arith) ∙ at_other _ _ _ _ (omega arith) ∙ at_same _ _ _) (at_other _ _ _ _ (omega arith) ∙ at_same _ _ _) (at_same _ _ _) d a b,
  )

  pub shrink : (d : ℕ) → Live t' d → Live t d ⊎ ((t.corners ≤ d) × (d ≤ t.corners + 2))
  shrink d h = go (dec_lt d t.corners)
    where
      go : Dec (d < t.corners) → Live t d ⊎ ((t.corners ≤ d) × (d ≤ t.corners + 2))
      go (yes l) = inl (l, sym (M_old d l) ∙ sym (seen d h.0) ∙ h.1)
      go (no l) = inr (omega arith, omega (arith, h.0))

  next3 : next t.corners ≡ t.corners + 1
  next3 = next_first t.corners W.thirds

  next4 : next (t.corners + 1) ≡ t.corners + 2
  next4 = let z : t.corners % 3 ≡ 0 = W.thirds in omega (arith, next_second (t.corners + 1) (omega arith))

  next5 : next (t.corners + 2) ≡ t.corners
  next5 = let z : t.corners % 3 ≡ 0 = W.thirds in omega (arith, next_last (t.corners + 2) (omega arith))

  face_marks_lem : (c : ℕ) → c < t.corners + 3 → get_or (three t.corner_mark t.corners 0 0 0) (next c) 1 ≡ get_or (three t.corner_mark t.corners 0 0 0) c 1
  face_marks_lem c h = go (dec_lt c t.corners)
    where
      go : Dec (c < t.corners) → get_or (three t.corner_mark t.corners 0 0 0) (next c) 1 ≡ get_or (three t.corner_mark t.corners 0 0 0) c 1
      go (yes l) =
          let k : next c < t.corners = next_below c t.corners W.thirds l in
          seen (next c) (omega arith) ∙ M_old (next c) k ∙ W.face_marks c l ∙ sym (M_old c l) ∙ sym (seen c (omega arith))
      go (no l) =
          let m : t.corners % 3 ≡ 0 = W.thirds in
          let a : next c < t.corners + 3 = next_below c (t.corners + 3) (omega arith) h in
          let b : t.corners ≤ next c = in_three (λ d. t.corners ≤ next d) t.corners (omega (arith, next3)) (omega (arith, next4)) (omega (arith, next5)) c (omega arith) (omega arith) in
          (fresh (next c) b (omega arith)).1 ∙ sym (fresh c (omega arith) (omega arith)).1

  corner_marks_lem : (c : ℕ) → c < t.corners + 3 → mark_at (three t.corner_mark t.corners 0 0 0) c ≤ 1
  corner_marks_lem =
      marks_grown t.corner_mark (three t.corner_mark t.corners 0 0 0) t.corners (t.corners + 3) W.corner_marks
      (λ i h. seen i (omega arith) ∙ M_old i h) (λ i a b. (fresh i a (omega arith)).1)

  -- opposites
  outer_old : (e : ℕ) → t.corners ≤ e → e ≤ t.corners + 2 → opposite t c0 ≢ e
  outer_old e a b z =
      let l : Live t (opposite t c0) = L.over c0 l0 (λ y. absurd (omega (arith, small))) in
      absurd (omega (arith, l.0))

  G : ℕ → ℕ
  G = at (t.corners + 2) absent (at (t.corners + 1) absent (at t.corners absent (opposite t)))

  co_at : (d : ℕ) → d < t.corners + 3 → get_or co' d absent ≡ at (t.corners + 1) c0 (at c0 (t.corners + 1) (at (t.corners + 2) (opposite t c0) (at (opposite t c0) (t.corners + 2) G))) d
  unfolding co' G
  co_at d h =
      let s : Seen t.corner_opposite (opposite t) absent d = record { inside = omega (arith, Z.corner_opposite_room); value = refl } in
      (paired_seen c0 (t.corners + 1) (paired_seen (opposite t c0) (t.corners + 2) (three_seen t.corners absent absent absent s))).value

  q0 : get_or co' c0 absent ≡ t.corners + 1
  q0 = co_at c0 (omega arith) ∙ at_other _ _ _ _ (omega arith) ∙ at_same _ _ _

  q4 : get_or co' (t.corners + 1) absent ≡ c0
  q4 = co_at (t.corners + 1) (omega arith) ∙ at_same _ _ _

  q5 : get_or co' (t.corners + 2) absent ≡ opposite t c0
  q5 = co_at (t.corners + 2) (omega arith) ∙ at_other _ _ _ _ (omega arith) ∙ at_other _ _ _ _ (omega arith) ∙ at_same _ _ _

  q3 : get_or co' t.corners absent ≡ absent
  unfolding G
  q3 = co_at t.corners (omega arith) ∙ at_other _ _ _ _ (omega arith) ∙ at_other _ _ _ _ (omega arith) ∙ at_other _ _ _ _ (omega arith) ∙ at_other _ _ _ _ (λ z. outer_old t.corners (omega arith) (omega arith) (sym z))
      ∙ at_other _ _ _ _ (omega arith) ∙ at_other _ _ _ _ (omega arith) ∙ at_same _ _ _

  over0 : (d : ℕ) → Live t d → opposite t d ≡ c0 → get_or co' d absent ≡ t.corners + 2
  over0 d h o =
      let b : opposite t c0 ≡ d = opp_of L d c0 h l0 o in
      let a : d ≢ c0 = λ z. opp_not_self L c0 l0 (λ y. L.present d h (sym b ∙ y)) (b ∙ z) in
      co_at d (omega arith) ∙ at_other _ _ _ _ (omega arith) ∙ at_other _ _ _ _ a ∙ at_other _ _ _ _ (omega arith) ∙ ap (at (opposite t c0) (t.corners + 2) G) (sym b) ∙ at_same _ _ _

  rest : (d : ℕ) → Live t d → d ≢ c0 → opposite t d ≢ c0 → get_or co' d absent ≡ opposite t d
  unfolding G
  rest d h a p = co_at d (omega arith) ∙ at_other _ _ _ _ (omega arith) ∙ at_other _ _ _ _ a ∙ at_other _ _ _ _ (omega arith) ∙ at_other _ _ _ _ (λ z. p (opp_of L c0 d l0 h (sym z)))
      ∙ three_old t.corners absent absent absent (opposite t) d h.0

  -- vertices
  sound : Sound (Live t) (vertex t) t.corners c2 (ring t.corner_opposite t.corners c2)
  sound = ring_sound t Z W c2 l2

  -- who is renumbered: the ring of c2 but c2
  among : (d : ℕ) → Memᴰ d cs → Memᴰ d (ring t.corner_opposite t.corners c2) × (d ≢ c2)
  unfolding cs
  among d z = without_from c2 (ring t.corner_opposite t.corners c2) d z

  into : (d : ℕ) → Memᴰ d (ring t.corner_opposite t.corners c2) → d ≢ c2 → Memᴰ d cs
  unfolding cs
  into d m a = without_to c2 (ring t.corner_opposite t.corners c2) d m a

  N : ℕ → ℕ
  N = at (t.corners + 2) (vertex t c2) (at (t.corners + 1) t.vertices (at t.corners (vertex t c1) (vertex t)))

  cv_seen : (d : ℕ) → d < t.corners + 3 → Seen (three t.corner_vertex t.corners (vertex t c1) t.vertices (vertex t c2)) N 0 d
  unfolding N
  cv_seen d h =
      let s : Seen t.corner_vertex (vertex t) 0 d = record { inside = omega (arith, Z.corner_vertex_room); value = refl } in
      three_seen t.corners (vertex t c1) t.vertices (vertex t c2) s

  N_old : (d : ℕ) → d < t.corners → N d ≡ vertex t d
  unfolding N
  N_old d h = three_old t.corners _ _ _ (vertex t) d h

  not_in : (d : ℕ) → ¬ (Live t d × (vertex t d ≡ vertex t c2)) → ¬ Memᴰ d cs
  unfolding cs
  not_in d m z = m (sound.from d (among d z).0)

  new_at : (d : ℕ) → t.corners ≤ d → d < t.corners + 3 → get_or cv' d 0 ≡ N d
  unfolding cv'
  new_at d a b = relabel_out cs t.vertices _ d 0 (not_in d (λ h. absurd (omega (arith, h.0.0)))) ∙ (cv_seen d b).value

  w2 : get_or cv' c2 0 ≡ vertex t c2
  unfolding cv'
  w2 = relabel_out cs t.vertices _ c2 0 (λ z. (among c2 z).1 refl) ∙ (cv_seen c2 (omega arith)).value ∙ N_old c2 l2.0

  wu : (d : ℕ) → Live t d → d ≢ c2 → vertex t d ≡ vertex t c2 → get_or cv' d 0 ≡ t.vertices
  unfolding cv'
  wu d h a e = relabel_in cs t.vertices _ d 0 (cv_seen d (omega arith)).inside (into d (sound.to d h e) a)

  wr : (d : ℕ) → Live t d → vertex t d ≢ vertex t c2 → get_or cv' d 0 ≡ vertex t d
  unfolding cv'
  wr d h e = relabel_out cs t.vertices _ d 0 (not_in d (λ z. e z.1)) ∙ (cv_seen d (omega arith)).value ∙ N_old d h.0

  u3 : get_or cv' t.corners 0 ≡ vertex t c1
  unfolding N
  u3 = new_at t.corners (omega arith) (omega arith) ∙ at_other _ _ _ _ (omega arith) ∙ at_other _ _ _ _ (omega arith) ∙ at_same _ _ _

  u4 : get_or cv' (t.corners + 1) 0 ≡ t.vertices
  unfolding N
  u4 = new_at (t.corners + 1) (omega arith) (omega arith) ∙ at_other _ _ _ _ (omega arith) ∙ at_same _ _ _

  u5 : get_or cv' (t.corners + 2) 0 ≡ vertex t c2
  unfolding N
  u5 = new_at (t.corners + 2) (omega arith) (omega arith) ∙ at_same _ _ _

  pub the_rim : Rim (Live t) (Live t') (opposite t) (opposite t') (vertex t) (vertex t') c1 c2 c0 t.corners (t.corners + 1) (t.corners + 2) t.vertices
  the_rim = record {
    f = f;
    g = face3 t.corners (t.corners + 1) (t.corners + 2) next3 next4;
    alive = l1;
    t1 = bd;
    old = λ d h. h.0;
    e4 = refl;
    e5 = refl;
    small = small;
    fresh = λ d h z. absurd (omega (arith, (W.vertex_live d h).0));
    grow = grow;
    l3 = fresh t.corners (omega arith) (omega arith);
    l4 = fresh (t.corners + 1) (omega arith) (omega arith);
    l5 = fresh (t.corners + 2) (omega arith) (omega arith);
    shrink = shrink;
    n0 = q0;
    n4 = q4;
    n3 = q3;
    n5 = q5;
    over0 = over0;
    rest = rest;
    w2 = w2;
    w3 = u3;
    w4 = u4;
    w5 = u5;
    wu = wu;
    wr = wr;
  }

  new_vertex : (c : ℕ) → Live t' c → LiveVertex t' (get_or cv' c 0)
  new_vertex c h = go (shrink c h)
    where
      one : (v x : ℕ) → v ≡ x → LiveVertex t' x → LiveVertex t' v
      one v x e k = subst (LiveVertex t') (sym e) k

      ov : (c : ℕ) → Live t c → LiveVertex t' (vertex t c)
      ov c k = old_vertex t W vroom (vertex t c) (W.vertex_live c k)

      was : Live t c → Dec (vertex t c ≡ vertex t c2) → Dec (c ≡ c2) → LiveVertex t' (get_or cv' c 0)
      was k (no e) p = one _ _ (wr c k e) (ov c k)
      was k (yes e) (yes z) = one _ _ (ap (λ (i : ℕ). get_or cv' i 0) z ∙ w2) (ov c2 l2)
      was k (yes e) (no z) = one _ _ (wu c k z e) (new_one t W vroom)

      go : Live t c ⊎ ((t.corners ≤ c) × (c ≤ t.corners + 2)) → LiveVertex t' (get_or cv' c 0)
      go (inl k) = was k (ℕ_discrete (vertex t c) (vertex t c2)) (ℕ_discrete c c2)
      go (inr k) = in_three (λ d. LiveVertex t' (get_or cv' d 0)) t.corners (one _ _ u3 (ov c1 l1)) (one _ _ u4 (new_one t W vroom)) (one _ _ u5 (ov c2 l2)) c k.0 k.1

  vc_at : (v : ℕ) → v < t.vertices + 1 → get_or vc' v absent ≡ at t.vertices (t.corners + 1) (at (vertex t c2) c2 (corner t)) v
  unfolding vc'
  vc_at v h =
      let s : Seen t.vertex_corner (corner t) absent v = record { inside = omega (arith, Z.vertex_corner_room); value = refl } in
      (set_seen t.vertices (t.corners + 1) (set_seen (vertex t c2) c2 s)).value

  naming : (v : ℕ) → LiveVertex t' v → Live t' (get_or vc' v absent) × (get_or cv' (get_or vc' v absent) 0 ≡ v)
  naming v h = rw (vc_at v h.0) (at_ind Q t.vertices (t.corners + 1) _ v (λ e. (fresh (t.corners + 1) (omega arith) (omega arith), u4 ∙ sym e)) (λ a.
      at_ind Q (vertex t c2) c2 _ v (λ e. (grow c2 l2, w2 ∙ sym e)) (λ b.
      let k : LiveVertex t v = was_vertex t W vroom v h a in
      (grow (corner t v) (W.corner_live v k), wr (corner t v) (W.corner_live v k) (λ z. b (sym (W.corner_own v k) ∙ z)) ∙ W.corner_own v k))))
    where
      Q : ℕ → Type 0
      Q c = Live t' c × (get_or cv' c 0 ≡ v)

  pub rim_table : WellFormed t'
  rim_table =
      let L' : Linked (Live t') (opposite t') (vertex t') = rim_linked L the_rim in
      let named : (v : ℕ) → LiveVertex t' v → Live t' (corner t' v) = λ v h. (naming v h).0 in
      let names : (v : ℕ) → LiveVertex t' v → vertex t' (corner t' v) ≡ v = λ v h. (naming v h).1 in
      record {
        corners_fit = simp length-set room;
        vertices_fit = simp length-set vroom;
        thirds = omega (arith, W.thirds);
        corner_marks = corner_marks_lem;
        face_marks = face_marks_lem;
        vertex_marks = vertex_marks_lem t W vroom;
        finite = good;
        vertex_live = new_vertex;
        differ = L'.differ;
        mate = λ c h m. record { over = L'.over c h m; pair = L'.pair c h m; tail = L'.tail c h m; head = L'.head c h m };
        corner_live = named;
        corner_own = names;
        one_fan = fan_table t' (rim_fan L the_rim (table_fan t Z W)) new_vertex named names L';
      }

-- a split of a border edge with room keeps the table well-formed. The face is read from the corner before c
pub rim_wf : (t : Table) → Shaped t → WellFormed t → t.corners + 3 ≤ length t.corner_mark → t.vertices + 1 ≤ length t.vertex_mark
    → (c : ℕ) → Live t c → opposite t c ≡ absent → (at : Point) → finite_point at ≡ true → WellFormed (split_boundary_edge t c at)
unfolding split_boundary_edge triangle boundary_vertices boundary_opposites split_corners cs cv' co' vc'
rim_wf t Z W r s c h b at f =
    let L : Linked (Live t) (opposite t) (vertex t) = table_linked t Z W in
    let c0 : ℕ = previous c in
    let c1 : ℕ = next c0 in
    let l1 : Live t (next (previous c)) = rw (next_previous c) h in
    let l2 : Live t (next (next (previous c))) = L.face (next (previous c)) l1 in
    let b1 : opposite t (next (previous c)) ≡ absent = rw (next_previous c) b in
    rim_table t Z W r s c1 (next c1) c0 (face3 c1 (next c1) c0 refl (next_three c0)) l1 l2 (face_previous L c h) b1
    (split_points (vertex t (next c1)) t.vertices at t.vertex_point) (split_finite t W s Z (vertex t (next c1)) (W.vertex_live (next c1) l2) at f)
