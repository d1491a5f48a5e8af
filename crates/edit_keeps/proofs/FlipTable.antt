-- The flip on the lists. Assumes nothing.
use mathlib.Core.Path.{◌≡◌, refl, sym, ◌∙◌, subst}
use mathlib.Core.Logic.{◌≢◌, Ne-symm}
use mathlib.Core.List.{List}
use Prim.Native.Nat.{ℕ, ◌<◌}
use native.Mathlib.Omega.{arith}
use lib.ListN.{length, get_or, set}
use Rattle.corner.specs.Corner.{next}
use Rattle.corner.specs.Corner.{absent}
use Rattle.fan.proofs.Fan.{Linked, opp_of}
use Rattle.fan.proofs.Redirect.{at, at_same, at_other, at_ind, Seen, set_seen}
use Rattle.edit_keeps.proofs.Site.{Six, is1, is2, is0, is4, is5, is3, Site, site, l2, l0, l4, l5, l3, x1_2, x2_0, x0_1, x4_5, x5_3, x3_4, x1_5, x1_3, x2_4, x2_5, x2_3, x0_4, x0_5, x0_3, x1_4, s0, s2, s3, s5}
use Rattle.edit_keeps.proofs.Flip.{Flip, flip_linked, flip_fan}
use Rattle.table.specs.Table.{Table, table, Live, LiveVertex, opposite, vertex, corner, Shaped}
use Rattle.table.specs.Rules.{WellFormed}
use Rattle.edit_plans.specs.Plans.{around}
use Rattle.edit_flip.specs.Flip.{flip_vertices, flip_opposites, flip_corners, flip_edge}
use Rattle.table.specs.Slots.{with_pair}
use Rattle.fan.proofs.Tables.{table_linked, table_fan, fan_table, inside}
use Rattle.edit_keeps.proofs.Writes.{paired_seen}

-- edit.rs, flip_edge: the reads first, then the writes in their order
abbrev pub flip_co : List ℕ → (c0 c1 c2 c3 c4 c5 o5 o0 o2 o3 : ℕ) → List ℕ
flip_co o c0 c1 c2 c3 c4 c5 o5 o0 o2 o3 = with_pair (with_pair (with_pair (with_pair (with_pair o c0 o5) c1 c4) c2 o0) c3 o2) c5 o3

abbrev pub flip_cv : List ℕ → (c0 c1 c2 c3 c4 c5 v0 v1 v2 v3 : ℕ) → List ℕ
flip_cv l c0 c1 c2 c3 c4 c5 v0 v1 v2 v3 = set (set (set (set (set (set l c0 v1) c1 v2) c2 v3) c3 v3) c4 v0) c5 v1

abbrev pub flip_vc : List ℕ → (c0 c1 c2 c4 v0 v1 v2 v3 : ℕ) → List ℕ
flip_vc l c0 c1 c2 c4 v0 v1 v2 v3 = set (set (set (set l v0 c4) v1 c0) v2 c1) v3 c2

module _ (t : Table) (Z : Shaped t) (W : WellFormed t) (c1 c2 c0 c4 c5 c3 : ℕ) (A : Site (Live t) (opposite t) c1 c2 c0 c4 c5 c3)
    (wings : vertex t c1 ≢ vertex t c4) where
  L : Linked (Live t) (opposite t) (vertex t)
  L = table_linked t Z W

  abbrev S : ℕ → Type 0
  S d = Six c1 c2 c0 c4 c5 c3 d

  six_live : (d : ℕ) → S d → Live t d
  six_live d (is1 e) = subst (Live t) (sym e) A.alive
  six_live d (is2 e) = subst (Live t) (sym e) (l2 L A)
  six_live d (is0 e) = subst (Live t) (sym e) (l0 L A)
  six_live d (is4 e) = subst (Live t) (sym e) (l4 L A)
  six_live d (is5 e) = subst (Live t) (sym e) (l5 L A)
  six_live d (is3 e) = subst (Live t) (sym e) (l3 L A)

  -- an outer opposite, absent or not, is none of the six
  outside : (x : ℕ) → (opposite t x ≢ absent → ¬ S (opposite t x)) → ¬ S (opposite t x)
  outside x h s = h (L.present (opposite t x) (six_live (opposite t x) s)) s

  apart : (d e : ℕ) → S d → ¬ S e → d ≢ e
  apart d e s n z = n (subst S z s)

  apart' : (d e : ℕ) → ¬ S d → S e → d ≢ e
  apart' d e n s z = n (subst S (sym z) s)

  n5 : ¬ S (opposite t c5)
  n5 = outside c5 (s5 L A wings)

  n0 : ¬ S (opposite t c0)
  n0 = outside c0 (s0 L A wings)

  n2 : ¬ S (opposite t c2)
  n2 = outside c2 (s2 L A wings)

  n3 : ¬ S (opposite t c3)
  n3 = outside c3 (s3 L A wings)

  unfoldable pub co' : List ℕ
  co' = flip_co t.corner_opposite c0 c1 c2 c3 c4 c5 (opposite t c5) (opposite t c0) (opposite t c2) (opposite t c3)

  unfoldable pub cv' : List ℕ
  cv' = flip_cv t.corner_vertex c0 c1 c2 c3 c4 c5 (vertex t c0) (vertex t c1) (vertex t c2) (vertex t c4)

  inside_co : (d : ℕ) → Live t d → d < length t.corner_opposite
  inside_co d h = omega (arith, inside t Z W d h, Z.corner_opposite_room)

  inside_cv : (d : ℕ) → Live t d → d < length t.corner_vertex
  inside_cv d h = omega (arith, inside t Z W d h, Z.corner_vertex_room)

  -- the opposites afterwards
  co_at : (d : ℕ) → Live t d → get_or co' d absent
      ≡ at (opposite t c3) c5 (at c5 (opposite t c3) (at (opposite t c2) c3 (at c3 (opposite t c2) (at (opposite t c0) c2 (at c2 (opposite t c0) (at c4 c1 (at c1 c4 (at (opposite t c5) c0 (at c0 (opposite t c5) (opposite t)))))))))) d
  unfolding co'
  co_at d h =
      let s : Seen t.corner_opposite (opposite t) absent d = record { inside = inside_co d h; value = refl } in
      (paired_seen c5 (opposite t c3) (paired_seen c3 (opposite t c2) (paired_seen c2 (opposite t c0) (paired_seen c1 c4 (paired_seen c0 (opposite t c5) s))))).value

  y1_2 : c1 ≢ c2
  y1_2 = x1_2 L A

  y2_1 : c2 ≢ c1
  y2_1 = Ne-symm (x1_2 L A)

  y2_0 : c2 ≢ c0
  y2_0 = x2_0 L A

  y0_2 : c0 ≢ c2
  y0_2 = Ne-symm (x2_0 L A)

  y0_1 : c0 ≢ c1
  y0_1 = x0_1 L A

  y1_0 : c1 ≢ c0
  y1_0 = Ne-symm (x0_1 L A)

  y4_5 : c4 ≢ c5
  y4_5 = x4_5 L A

  y5_4 : c5 ≢ c4
  y5_4 = Ne-symm (x4_5 L A)

  y5_3 : c5 ≢ c3
  y5_3 = x5_3 L A

  y3_5 : c3 ≢ c5
  y3_5 = Ne-symm (x5_3 L A)

  y3_4 : c3 ≢ c4
  y3_4 = x3_4 L A

  y4_3 : c4 ≢ c3
  y4_3 = Ne-symm (x3_4 L A)

  y1_4 : c1 ≢ c4
  y1_4 = x1_4 L A wings

  y4_1 : c4 ≢ c1
  y4_1 = Ne-symm (x1_4 L A wings)

  y1_5 : c1 ≢ c5
  y1_5 = x1_5 L A

  y5_1 : c5 ≢ c1
  y5_1 = Ne-symm (x1_5 L A)

  y1_3 : c1 ≢ c3
  y1_3 = x1_3 L A

  y3_1 : c3 ≢ c1
  y3_1 = Ne-symm (x1_3 L A)

  y2_4 : c2 ≢ c4
  y2_4 = x2_4 L A

  y4_2 : c4 ≢ c2
  y4_2 = Ne-symm (x2_4 L A)

  y2_5 : c2 ≢ c5
  y2_5 = x2_5 L A

  y5_2 : c5 ≢ c2
  y5_2 = Ne-symm (x2_5 L A)

  y2_3 : c2 ≢ c3
  y2_3 = x2_3 L A

  y3_2 : c3 ≢ c2
  y3_2 = Ne-symm (x2_3 L A)

  y0_4 : c0 ≢ c4
  y0_4 = x0_4 L A

  y4_0 : c4 ≢ c0
  y4_0 = Ne-symm (x0_4 L A)

  y0_5 : c0 ≢ c5
  y0_5 = x0_5 L A

  y5_0 : c5 ≢ c0
  y5_0 = Ne-symm (x0_5 L A)

  y0_3 : c0 ≢ c3
  y0_3 = x0_3 L A

  y3_0 : c3 ≢ c0
  y3_0 = Ne-symm (x0_3 L A)

  ruleset moves = (at_other, at_same, apart, apart', is1, is2, is0, is4, is5, is3, n5, n0, n2, n3, y1_2, y2_1, y2_0, y0_2, y0_1, y1_0, y4_5, y5_4, y5_3, y3_5, y3_4, y4_3, y1_4, y4_1, y1_5, y5_1, y1_3, y3_1, y2_4, y4_2, y2_5, y5_2, y2_3, y3_2, y0_4, y4_0, y0_5, y5_0, y0_3, y3_0)

  q0 : get_or co' c0 absent ≡ opposite t c5
  q0 = co_at c0 (l0 L A) ∙ simp moves

  q1 : get_or co' c1 absent ≡ c4
  q1 = co_at c1 A.alive ∙ simp moves

  q2 : get_or co' c2 absent ≡ opposite t c0
  q2 = co_at c2 (l2 L A) ∙ simp moves

  q3 : get_or co' c3 absent ≡ opposite t c2
  q3 = co_at c3 (l3 L A) ∙ simp moves

  q4 : get_or co' c4 absent ≡ c1
  q4 = co_at c4 (l4 L A) ∙ simp moves

  q5 : get_or co' c5 absent ≡ opposite t c3
  q5 = co_at c5 (l5 L A) ∙ simp moves

  -- a live corner that is the opposite of one of the six is so of no other
  other : (d x y : ℕ) → Live t d → Live t x → Live t y → x ≢ y → opposite t d ≡ x → d ≢ opposite t y
  other d x y h k m n e z = n (sym e ∙ opp_of L y d m h (sym z))

  over5 : (d : ℕ) → Live t d → opposite t d ≡ c5 → get_or co' d absent ≡ c0
  over5 d h e =
      let b : opposite t c5 ≡ d = opp_of L d c5 h (l5 L A) e in
      let n : ¬ S d = subst (λ (x : ℕ). ¬ S x) b n5 in
      let p3 : d ≢ opposite t c3 = other d c5 c3 h (l5 L A) (l3 L A) y5_3 e in
      let p2 : d ≢ opposite t c2 = other d c5 c2 h (l5 L A) (l2 L A) y5_2 e in
      let p0 : d ≢ opposite t c0 = other d c5 c0 h (l5 L A) (l0 L A) y5_0 e in
      co_at d h ∙ simp (moves, b)

  over0 : (d : ℕ) → Live t d → opposite t d ≡ c0 → get_or co' d absent ≡ c2
  over0 d h e =
      let b : opposite t c0 ≡ d = opp_of L d c0 h (l0 L A) e in
      let n : ¬ S d = subst (λ (x : ℕ). ¬ S x) b n0 in
      let p3 : d ≢ opposite t c3 = other d c0 c3 h (l0 L A) (l3 L A) y0_3 e in
      let p2 : d ≢ opposite t c2 = other d c0 c2 h (l0 L A) (l2 L A) y0_2 e in
      co_at d h ∙ simp (moves, b)

  over2 : (d : ℕ) → Live t d → opposite t d ≡ c2 → get_or co' d absent ≡ c3
  over2 d h e =
      let b : opposite t c2 ≡ d = opp_of L d c2 h (l2 L A) e in
      let n : ¬ S d = subst (λ (x : ℕ). ¬ S x) b n2 in
      let p3 : d ≢ opposite t c3 = other d c2 c3 h (l2 L A) (l3 L A) y2_3 e in
      co_at d h ∙ simp (moves, b)

  over3 : (d : ℕ) → Live t d → opposite t d ≡ c3 → get_or co' d absent ≡ c5
  over3 d h e =
      let b : opposite t c3 ≡ d = opp_of L d c3 h (l3 L A) e in
      co_at d h ∙ simp (moves, b)

  rest : (d : ℕ) → Live t d → ¬ S d → ¬ S (opposite t d) → get_or co' d absent ≡ opposite t d
  rest d h n m =
      let p : (x : ℕ) → S x → d ≢ opposite t x = λ x s z. m (subst S (sym (opp_of L x d (six_live x s) h (sym z))) s) in
      let p5 : d ≢ opposite t c5 = p c5 (is5 refl) in
      let p0 : d ≢ opposite t c0 = p c0 (is0 refl) in
      let p2 : d ≢ opposite t c2 = p c2 (is2 refl) in
      let p3 : d ≢ opposite t c3 = p c3 (is3 refl) in
      co_at d h ∙ simp moves

  -- the vertices afterwards
  cv_at : (d : ℕ) → Live t d → get_or cv' d 0 ≡ at c5 (vertex t c1) (at c4 (vertex t c0) (at c3 (vertex t c4) (at c2 (vertex t c4) (at c1 (vertex t c2) (at c0 (vertex t c1) (vertex t)))))) d
  unfolding cv'
  cv_at d h =
      let s : Seen t.corner_vertex (vertex t) 0 d = record { inside = inside_cv d h; value = refl } in
      (set_seen c5 (vertex t c1) (set_seen c4 (vertex t c0) (set_seen c3 (vertex t c4) (set_seen c2 (vertex t c4) (set_seen c1 (vertex t c2) (set_seen c0 (vertex t c1) s)))))).value

  pub the_flip : Flip (Live t) (opposite t) (λ d. get_or co' d absent) (vertex t) (λ d. get_or cv' d 0) c1 c2 c0 c4 c5 c3
  the_flip = record {
    n0 = q0;
    n1 = q1;
    n2 = q2;
    n3 = q3;
    n4 = q4;
    n5 = q5;
    over5 = over5;
    over0 = over0;
    over2 = over2;
    over3 = over3;
    rest = rest;
    w0 = cv_at c0 (l0 L A) ∙ simp moves;
    w1 = cv_at c1 A.alive ∙ simp moves;
    w2 = cv_at c2 (l2 L A) ∙ simp moves;
    w3 = cv_at c3 (l3 L A) ∙ simp moves;
    w4 = cv_at c4 (l4 L A) ∙ simp moves;
    w5 = cv_at c5 (l5 L A) ∙ simp moves;
    wrest = λ d h n. cv_at d h ∙ simp moves;
  }

  unfoldable pub vc' : List ℕ
  vc' = flip_vc t.vertex_corner c0 c1 c2 c4 (vertex t c0) (vertex t c1) (vertex t c2) (vertex t c4)

  vc_at : (v : ℕ) → LiveVertex t v → get_or vc' v absent ≡ at (vertex t c4) c2 (at (vertex t c2) c1 (at (vertex t c1) c0 (at (vertex t c0) c4 (corner t)))) v
  unfolding vc'
  vc_at v h =
      let s : Seen t.vertex_corner (corner t) absent v = record { inside = omega (arith, W.vertices_fit, Z.vertex_corner_room); value = refl } in
      (set_seen (vertex t c4) c2 (set_seen (vertex t c2) c1 (set_seen (vertex t c1) c0 (set_seen (vertex t c0) c4 s)))).value

  -- a vertex's corner is a live corner of it
  Named : ℕ → ℕ → Type 0
  Named v c = Live t c × (get_or cv' c 0 ≡ v)

  naming : (v : ℕ) → LiveVertex t v → Named v (at (vertex t c4) c2 (at (vertex t c2) c1 (at (vertex t c1) c0 (at (vertex t c0) c4 (corner t)))) v)
  unfolding Named
  naming v h = at_ind (Named v) (vertex t c4) c2 _ v (λ e. (l2 L A, the_flip.w2 ∙ sym e)) (λ a.
      at_ind (Named v) (vertex t c2) c1 _ v (λ e. (A.alive, the_flip.w1 ∙ sym e)) (λ b.
      at_ind (Named v) (vertex t c1) c0 _ v (λ e. (l0 L A, the_flip.w0 ∙ sym e)) (λ c.
      at_ind (Named v) (vertex t c0) c4 _ v (λ e. (l4 L A, the_flip.w4 ∙ sym e)) (λ e.
      (W.corner_live v h, the_flip.wrest (corner t v) (W.corner_live v h) (off a b c e) ∙ W.corner_own v h)))))
    where
      off : v ≢ vertex t c4 → v ≢ vertex t c2 → v ≢ vertex t c1 → v ≢ vertex t c0 → ¬ S (corner t v)
      off a b c e (is1 z) = c (cc (W.corner_own v h))
      off a b c e (is2 z) = b (cc (W.corner_own v h))
      off a b c e (is0 z) = e (cc (W.corner_own v h))
      off a b c e (is4 z) = a (cc (W.corner_own v h))
      off a b c e (is5 z) = e (cc (W.corner_own v h, L.tail c1 A.alive A.t1))
      off a b c e (is3 z) = b (cc (W.corner_own v h, L.head c1 A.alive A.t1))

  unfoldable pub flipped : Table
  flipped = table cv' co' t.corner_mark vc' t.vertex_mark t.vertex_point t.vertices t.corners

  new_vertex : (c : ℕ) → Live t c → LiveVertex t (get_or cv' c 0)
  new_vertex c h = rw (cv_at c h) (at_ind (LiveVertex t) c5 (vertex t c1) _ c (λ e. W.vertex_live c1 A.alive) (λ e.
      at_ind (LiveVertex t) c4 (vertex t c0) _ c (λ e. W.vertex_live c0 (l0 L A)) (λ e.
      at_ind (LiveVertex t) c3 (vertex t c4) _ c (λ e. W.vertex_live c4 (l4 L A)) (λ e.
      at_ind (LiveVertex t) c2 (vertex t c4) _ c (λ e. W.vertex_live c4 (l4 L A)) (λ e.
      at_ind (LiveVertex t) c1 (vertex t c2) _ c (λ e. W.vertex_live c2 (l2 L A)) (λ e.
      at_ind (LiveVertex t) c0 (vertex t c1) _ c (λ e. W.vertex_live c1 A.alive) (λ e. W.vertex_live c h)))))))

  flipped_wf : WellFormed flipped
  unfolding flipped Named
  flipped_wf =
      let L' : Linked (Live t) (λ d. get_or co' d absent) (λ d. get_or cv' d 0) = flip_linked L A wings the_flip in
      let named : (v : ℕ) → LiveVertex t v → Live t (get_or vc' v absent) = λ v h. rw (vc_at v h) (naming v h).0 in
      let names : (v : ℕ) → LiveVertex t v → get_or cv' (get_or vc' v absent) 0 ≡ v = λ v h. rw (vc_at v h) (naming v h).1 in
      record {
        corners_fit = W.corners_fit;
        vertices_fit = W.vertices_fit;
        thirds = W.thirds;
        corner_marks = W.corner_marks;
        face_marks = W.face_marks;
        vertex_marks = W.vertex_marks;
        vertex_live = new_vertex;
        differ = L'.differ;
        mate = λ c h n. record { over = L'.over c h n; pair = L'.pair c h n; tail = L'.tail c h n; head = L'.head c h n };
        corner_live = named;
        corner_own = names;
        finite = W.finite;
        one_fan = fan_table flipped (flip_fan L A wings the_flip (table_fan t Z W)) new_vertex named names L';
      }

-- a flip that isn't refused keeps the table well-formed
pub flip_wf : (t : Table) → Shaped t → WellFormed t → (c : ℕ) → Live t c → opposite t c ≢ absent → vertex t c ≢ vertex t (opposite t c) → WellFormed (flip_edge t c)
unfolding flip_edge around flip_vertices flip_opposites flip_corners flipped co' cv' vc'
flip_wf t Z W c h n v = flipped_wf t Z W c (next c) (next (next c)) (opposite t c) (next (opposite t c)) (next (next (opposite t c))) (site (opposite t) c h n) v
