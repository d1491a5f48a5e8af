-- The collapse on the lists. Assumes nothing.
use borrow.Author.Tests.{ne_eqb}
use mathlib.Core.Bool.{true}
use mathlib.Core.Path.{◌≡◌, refl, ap, sym, ◌∙◌}
use mathlib.Core.Logic.{◌≢◌, Ne-symm, ◌⊎◌, inl, inr}
use mathlib.Core.List.{List}
use Prim.Native.Nat.{ℕ, ◌≤◌, ◌<◌}
use native.Mathlib.Omega.{arith}
use native.Mathlib.Decide.{ℕ_discrete}
use lib.ListN.{length, get_or, set, length-set}
use Rattle.corner.specs.Corner.{next, previous}
use Rattle.corner.proofs.Turns.{next_below}
use Rattle.corner.specs.Corner.{absent}
use Rattle.fan.proofs.Fan.{Linked, face_previous}
use Rattle.edit_keeps.proofs.Site.{Six, is1, is2, is0, is4, is5, is3, six?, six_next, off_next, off_previous, l2, l0, l5, l3, e2, e0, d20, x2_0, x5_3, x0_5, x0_3, x2_5, x2_3, Site, site}
use Rattle.edit_keeps.proofs.Collapse.{MergeSite, Merge, collapse_linked, collapse_fan, lo2, lo0, lo5, lo3, so0, so5, so3, bo2, bo0, bo5, bo3, t0, t5, t3}
use Rattle.fan.proofs.Redirect.{at, at_same, at_other, at_ind, Seen, set_seen}
use Rattle.table.specs.Slots.{relabel}
use Rattle.fan.proofs.Relabel.{relabel_in, relabel_out}
use Rattle.fan.proofs.Visits.{Sound}
use Rattle.ring.specs.Ring.{ring}
use Rattle.ring.proofs.Exact.{ring_sound}
use Rattle.edit_plans.specs.Plans.{around}
use Rattle.edit_collapse.specs.Collapse.{winged, either, collapse_vertices, collapse_opposites, collapse_marks, collapse_corners, collapse_edge}
use Rattle.vertex.specs.declared.Point.{Point}
use Rattle.vertex.specs.Point.{finite_point}
use Rattle.table.specs.Table.{Table, table, Live, LiveVertex, opposite, vertex, corner, Shaped}
use Rattle.table.specs.Rules.{WellFormed}
use Rattle.table.specs.Slots.{with_pair, mark_at, point_at, with_point}
use Rattle.fan.proofs.Tables.{table_linked, table_fan, fan_table, inside}
use Rattle.edit_keeps.proofs.Writes.{paired_seen, mark_set, placed_here, placed_other}

module _ (t : Table) (Z : Shaped t) (W : WellFormed t) (c1 c2 c0 c4 c5 c3 o2 o0 o5 o3 : ℕ)
    (B : Site (Live t) (opposite t) c1 c2 c0 c4 c5 c3) (A : MergeSite (Live t) (opposite t) (vertex t) c1 c2 c0 c4 c5 c3 o2 o0 o5 o3)
    (at' : Point) (good : finite_point at' ≡ true) where
  pub L : Linked (Live t) (opposite t) (vertex t)
  L = table_linked t Z W

  abbrev S : ℕ → Type 0
  S d = Six c1 c2 c0 c4 c5 c3 d

  unfoldable pub about : List ℕ
  about = ring t.corner_opposite t.corners (corner t (vertex t c0))

  unfoldable pub cv' : List ℕ
  cv' = relabel about (vertex t c2) t.corner_vertex

  unfoldable pub co' : List ℕ
  co' = with_pair (with_pair t.corner_opposite o0 o2) o5 o3

  unfoldable pub cm' : List ℕ
  cm' = set (set (set (set (set (set t.corner_mark c4 1) c5 1) c3 1) c1 1) c2 1) c0 1

  unfoldable pub vc' : List ℕ
  vc' = set (set (set t.vertex_corner (vertex t c4) (previous o3)) (vertex t c1) (previous o0)) (vertex t c2) (previous o5)

  unfoldable pub vm' : List ℕ
  vm' = set t.vertex_mark (vertex t c0) 1

  abbrev pub u : Table
  u = table cv' co' cm' vc' vm' (with_point t.vertex_point (vertex t c2) at') t.vertices t.corners

  v0_live : LiveVertex t (vertex t c0)
  v0_live = W.vertex_live c0 (l0 L B)

  -- the walk about the deleted vertex
  sound : Sound (Live t) (vertex t) t.corners (corner t (vertex t c0)) about
  unfolding about
  sound = ring_sound t Z W (corner t (vertex t c0)) (W.corner_live (vertex t c0) v0_live)

  home : vertex t (corner t (vertex t c0)) ≡ vertex t c0
  home = W.corner_own (vertex t c0) v0_live

  inside_co : (d : ℕ) → Live t d → d < length t.corner_opposite
  inside_co d h = omega (arith, inside t Z W d h, Z.corner_opposite_room)

  inside_cv : (d : ℕ) → Live t d → d < length t.corner_vertex
  inside_cv d h = omega (arith, inside t Z W d h, Z.corner_vertex_room)

  w0 : (d : ℕ) → Live t d → vertex t d ≡ vertex t c0 → get_or cv' d 0 ≡ vertex t c2
  unfolding cv'
  w0 d h e = relabel_in about (vertex t c2) t.corner_vertex d 0 (inside_cv d h) (sound.to d h (e ∙ sym home))

  w : (d : ℕ) → Live t d → vertex t d ≢ vertex t c0 → get_or cv' d 0 ≡ vertex t d
  unfolding cv'
  w d h e = relabel_out about (vertex t c2) t.corner_vertex d 0 (λ m. e ((sound.from d m).1 ∙ home))

  -- the marks afterwards
  marks_at : ℕ → ℕ
  marks_at = at c0 1 (at c2 1 (at c1 1 (at c3 1 (at c5 1 (at c4 1 (λ d. get_or t.corner_mark d 1))))))

  cm_at : (d : ℕ) → d < t.corners → get_or cm' d 1 ≡ marks_at d
  unfolding cm' marks_at
  cm_at d h =
      let s : Seen t.corner_mark (λ d. get_or t.corner_mark d 1) 1 d = record { inside = omega (arith, W.corners_fit); value = refl } in
      (set_seen c0 1 (set_seen c2 1 (set_seen c1 1 (set_seen c3 1 (set_seen c5 1 (set_seen c4 1 s)))))).value

  -- one of the six is marked, any other corner is as it was
  marks_six : (d : ℕ) → S d → marks_at d ≡ 1
  unfolding marks_at
  marks_six d s = at_ind Q c0 1 _ d (λ e. refl) (λ a. at_ind Q c2 1 _ d (λ e. refl) (λ b. at_ind Q c1 1 _ d (λ e. refl) (λ c.
      at_ind Q c3 1 _ d (λ e. refl) (λ e. at_ind Q c5 1 _ d (λ e. refl) (λ f. at_ind Q c4 1 _ d (λ e. refl) (λ g. absurd (none a b c e f g s)))))))
    where
      Q : ℕ → Type 0
      Q y = y ≡ 1

      none : d ≢ c0 → d ≢ c2 → d ≢ c1 → d ≢ c3 → d ≢ c5 → d ≢ c4 → S d → ⊥
      none a b c e f g (is1 z) = c z
      none a b c e f g (is2 z) = b z
      none a b c e f g (is0 z) = a z
      none a b c e f g (is4 z) = g z
      none a b c e f g (is5 z) = f z
      none a b c e f g (is3 z) = e z

  marks_off : (d : ℕ) → ¬ S d → marks_at d ≡ get_or t.corner_mark d 1
  unfolding marks_at
  marks_off d n =
      let a : d ≢ c1 = λ z. n (is1 z) in
      let b : d ≢ c2 = λ z. n (is2 z) in
      let c : d ≢ c0 = λ z. n (is0 z) in
      let e : d ≢ c4 = λ z. n (is4 z) in
      let f : d ≢ c5 = λ z. n (is5 z) in
      let g : d ≢ c3 = λ z. n (is3 z) in
      simp at_other

  pub keep : (d : ℕ) → Live t d → ¬ S d → Live u d
  keep d h n = (h.0, cm_at d h.0 ∙ marks_off d n ∙ h.1)

  pub gone : (d : ℕ) → Live u d → ¬ S d
  gone d h s = omega (arith, cm_at d h.0, marks_six d s, h.1)

  pub kept : (d : ℕ) → Live u d → Live t d
  kept d h = (h.0, sym (marks_off d (gone d h)) ∙ sym (cm_at d h.0) ∙ h.1)

  -- the opposites afterwards
  co_at : (d : ℕ) → Live t d → get_or co' d absent ≡ at o3 o5 (at o5 o3 (at o2 o0 (at o0 o2 (opposite t)))) d
  unfolding co'
  co_at d h =
      let s : Seen t.corner_opposite (opposite t) absent d = record { inside = inside_co d h; value = refl } in
      (paired_seen o5 o3 (paired_seen o0 o2 s)).value

  -- opposites of different corners differ
  apart : (x y a b : ℕ) → opposite t a ≡ x → opposite t b ≡ y → x ≢ y → a ≢ b
  apart x y a b p q n z = n (cc)

  yo0_o2 : o0 ≢ o2
  yo0_o2 = apart c0 c2 o0 o2 (bo0 L B A) (bo2 L B A) (Ne-symm (x2_0 L B))

  yo0_o5 : o0 ≢ o5
  yo0_o5 = apart c0 c5 o0 o5 (bo0 L B A) (bo5 L B A) (x0_5 L B)

  yo0_o3 : o0 ≢ o3
  yo0_o3 = apart c0 c3 o0 o3 (bo0 L B A) (bo3 L B A) (x0_3 L B)

  yo2_o5 : o2 ≢ o5
  yo2_o5 = apart c2 c5 o2 o5 (bo2 L B A) (bo5 L B A) (x2_5 L B)

  yo2_o3 : o2 ≢ o3
  yo2_o3 = apart c2 c3 o2 o3 (bo2 L B A) (bo3 L B A) (x2_3 L B)

  yo5_o3 : o5 ≢ o3
  yo5_o3 = apart c5 c3 o5 o3 (bo5 L B A) (bo3 L B A) (x5_3 L B)

  pub the_merge : Merge (Live t) (Live u) (opposite t) (λ d. get_or co' d absent) (vertex t) (λ d. get_or cv' d 0) c1 c2 c0 c4 c5 c3 o2 o0 o5 o3
  the_merge = record {
    keep = keep;
    kept = kept;
    gone = gone;
    no0 = co_at o0 (lo0 L B A) ∙ simp (at_other, at_same, yo0_o3, yo0_o5, yo0_o2);
    no2 = co_at o2 (lo2 L B A) ∙ simp (at_other, at_same, yo2_o3, yo2_o5);
    no5 = co_at o5 (lo5 L B A) ∙ simp (at_other, at_same, yo5_o3);
    no3 = co_at o3 (lo3 L B A) ∙ simp at_same;
    rest = λ d h a b c e. co_at d (kept d h) ∙ simp at_other;
    w0 = λ d h. w0 d (kept d h);
    w = λ d h. w d (kept d h);
  }

  -- vertices afterwards
  vm_at : (v : ℕ) → v < t.vertices → get_or vm' v 1 ≡ at (vertex t c0) 1 (λ v. get_or t.vertex_mark v 1) v
  unfolding vm'
  vm_at v h =
      let s : Seen t.vertex_mark (λ v. get_or t.vertex_mark v 1) 1 v = record { inside = omega (arith, W.vertices_fit); value = refl } in
      (set_seen (vertex t c0) 1 s).value

  pub stays : (v : ℕ) → LiveVertex t v → v ≢ vertex t c0 → LiveVertex u v
  stays v h n = (h.0, vm_at v h.0 ∙ at_other _ _ _ v n ∙ h.1)

  pub stayed : (v : ℕ) → LiveVertex u v → LiveVertex t v × (v ≢ vertex t c0)
  stayed v h = at_ind (λ y. y ≡ 0 → LiveVertex t v × (v ≢ vertex t c0)) (vertex t c0) 1 (λ v. get_or t.vertex_mark v 1) v
      (λ e z. absurd (omega arith)) (λ n z. ((h.0, z), n)) (sym (vm_at v h.0) ∙ h.1)

  new_vertex : (c : ℕ) → Live u c → LiveVertex u (get_or cv' c 0)
  new_vertex c h = go (ℕ_discrete (vertex t c) (vertex t c0))
    where
      k : Live t c
      k = kept c h

      go : Dec (vertex t c ≡ vertex t c0) → LiveVertex u (get_or cv' c 0)
      go (yes e) = rw (w0 c k e) (stays (vertex t c2) (W.vertex_live c2 (l2 L B)) (d20 L B))
      go (no e) = rw (w c k e) (stays (vertex t c) (W.vertex_live c k) e)

  vc_at : (v : ℕ) → LiveVertex t v → get_or vc' v absent ≡ at (vertex t c2) (previous o5) (at (vertex t c1) (previous o0) (at (vertex t c4) (previous o3) (corner t))) v
  unfolding vc'
  vc_at v h =
      let s : Seen t.vertex_corner (corner t) absent v = record { inside = omega (arith, W.vertices_fit, Z.vertex_corner_room); value = refl } in
      (set_seen (vertex t c2) (previous o5) (set_seen (vertex t c1) (previous o0) (set_seen (vertex t c4) (previous o3) s))).value

  Named : ℕ → ℕ → Type 0
  Named v c = Live u c × (get_or cv' c 0 ≡ v)

  -- the three outer corners that vertices now name
  po5 : vertex t (previous o5) ≡ vertex t c2
  po5 = cc (L.head c5 (l5 L B) (t5 L B A), e2 L B)

  po0 : vertex t (previous o0) ≡ vertex t c1
  po0 = cc (L.head c0 (l0 L B) (t0 L B A))

  po3 : vertex t (previous o3) ≡ vertex t c4
  po3 = cc (L.head c3 (l3 L B) (t3 L B A))

  outer : (c v : ℕ) → Live t c → ¬ S c → vertex t (previous c) ≡ v → v ≢ vertex t c0 → Named v (previous c)
  unfolding Named
  outer c v h n e m = (keep (previous c) (face_previous L c h) (off_previous L B c n), w (previous c) (face_previous L c h) (λ z. m (sym e ∙ z)) ∙ e)

  naming : (v : ℕ) → LiveVertex t v → v ≢ vertex t c0 → Named v (at (vertex t c2) (previous o5) (at (vertex t c1) (previous o0) (at (vertex t c4) (previous o3) (corner t))) v)
  unfolding Named
  naming v h m = at_ind (Named v) (vertex t c2) (previous o5) _ v (λ e. outer o5 v (lo5 L B A) (so5 L B A) (po5 ∙ sym e) m) (λ a.
      at_ind (Named v) (vertex t c1) (previous o0) _ v (λ e. outer o0 v (lo0 L B A) (so0 L B A) (po0 ∙ sym e) m) (λ b.
      at_ind (Named v) (vertex t c4) (previous o3) _ v (λ e. outer o3 v (lo3 L B A) (so3 L B A) (po3 ∙ sym e) m) (λ c.
      (keep (corner t v) (W.corner_live v h) (off a b c), w (corner t v) (W.corner_live v h) (λ z. m (sym (W.corner_own v h) ∙ z)) ∙ W.corner_own v h))))
    where
      off : v ≢ vertex t c2 → v ≢ vertex t c1 → v ≢ vertex t c4 → ¬ S (corner t v)
      off a b c (is1 z) = b (cc (W.corner_own v h))
      off a b c (is2 z) = a (cc (W.corner_own v h))
      off a b c (is0 z) = m (cc (W.corner_own v h))
      off a b c (is4 z) = c (cc (W.corner_own v h))
      off a b c (is5 z) = m (cc (W.corner_own v h, e0 L B))
      off a b c (is3 z) = a (cc (W.corner_own v h, e2 L B))

  face_marks_lem : (c : ℕ) → c < t.corners → get_or cm' (next c) 1 ≡ get_or cm' c 1
  face_marks_lem c h = go (six? c1 c2 c0 c4 c5 c3 c)
    where
      k : next c < t.corners
      k = next_below c t.corners W.thirds h

      go : Dec (S c) → get_or cm' (next c) 1 ≡ get_or cm' c 1
      go (yes s) = cc (cm_at c h, cm_at (next c) k, marks_six c s, marks_six (next c) (six_next L B c s))
      go (no n) = cc (cm_at c h, cm_at (next c) k, marks_off c n, marks_off (next c) (off_next L B c n), W.face_marks c h)

  corner_marks_lem : (c : ℕ) → c < t.corners → mark_at cm' c ≤ 1
  corner_marks_lem c h = go (six? c1 c2 c0 c4 c5 c3 c)
    where
      go : Dec (S c) → mark_at cm' c ≤ 1
      go (yes s) = omega (arith, cm_at c h, marks_six c s)
      go (no n) = omega (arith, cm_at c h, marks_off c n, W.corner_marks c h)

  vertex_marks_lem : (v : ℕ) → v < t.vertices → mark_at vm' v ≤ 1
  unfolding vm'
  vertex_marks_lem v h = mark_set t.vertex_mark (vertex t c0) 1 v (omega arith) (W.vertex_marks v h)

  finite : (v : ℕ) → LiveVertex u v → finite_point (point_at (with_point t.vertex_point (vertex t c2) at') v) ≡ true
  finite v h = go (ℕ_discrete v (vertex t c2))
    where
      k : LiveVertex t v
      k = (stayed v h).0

      go : Dec (v ≡ vertex t c2) → finite_point (point_at (with_point t.vertex_point (vertex t c2) at') v) ≡ true
      go (yes e) =
          ap (λ (i : ℕ). finite_point (point_at (with_point t.vertex_point (vertex t c2) at') i)) e
          ∙ ap finite_point (placed_here t.vertex_point (vertex t c2) at' (omega (arith, Z.vertex_point_room, W.vertices_fit, (W.vertex_live c2 (l2 L B)).0))) ∙ good
      go (no n) = ap finite_point (placed_other t.vertex_point (vertex t c2) at' v n) ∙ W.finite v k

  pub u_wf : WellFormed u
  unfolding Named cm' vm'
  u_wf =
      let L' : Linked (Live u) (λ d. get_or co' d absent) (λ d. get_or cv' d 0) = collapse_linked L B A the_merge in
      let named : (v : ℕ) → LiveVertex u v → Live u (get_or vc' v absent) = λ v h. let s : LiveVertex t v × (v ≢ vertex t c0) = stayed v h in rw (vc_at v s.0) (naming v s.0 s.1).0 in
      let names : (v : ℕ) → LiveVertex u v → get_or cv' (get_or vc' v absent) 0 ≡ v = λ v h. let s : LiveVertex t v × (v ≢ vertex t c0) = stayed v h in rw (vc_at v s.0) (naming v s.0 s.1).1 in
      record {
        corners_fit = simp length-set W.corners_fit;
        vertices_fit = simp length-set W.vertices_fit;
        thirds = W.thirds;
        corner_marks = corner_marks_lem;
        face_marks = face_marks_lem;
        vertex_marks = vertex_marks_lem;
        finite = finite;
        vertex_live = new_vertex;
        differ = L'.differ;
        mate = λ c h n. record { over = L'.over c h n; pair = L'.pair c h n; tail = L'.tail c h n; head = L'.head c h n };
        corner_live = named;
        corner_own = names;
        one_fan = fan_table u (collapse_fan L B A the_merge t.corners (λ d h. h.0) (table_fan t Z W)) new_vertex named names L';
      }

-- the refusals of a collapse, passed: 11, 12 and 13's third face
pub record Safe (t : Table) (c : ℕ) : Type 0 where
  pub alive : Live t c
  pub here : opposite t c ≢ absent
  pub rings : (d : ℕ) → Live t d → (vertex t d ≡ vertex t (next c)) ⊎ (vertex t d ≡ vertex t (next (next c))) → (opposite t (next d) ≢ absent) × (opposite t (previous d) ≢ absent)
  pub wings : vertex t c ≢ vertex t (opposite t c)
  pub third : (d : ℕ) → Live t d → ¬ Six c (next c) (next (next c)) (opposite t c) (next (opposite t c)) (next (next (opposite t c))) d
      → vertex t d ≡ vertex t (next c) → vertex t (next d) ≢ vertex t (next (next c))
  pub third' : (d : ℕ) → Live t d → ¬ Six c (next c) (next (next c)) (opposite t c) (next (opposite t c)) (next (next (opposite t c))) d
      → vertex t d ≡ vertex t (next (next c)) → vertex t (next d) ≢ vertex t (next c)

pub merge_site : (t : Table) (c : ℕ) → Safe t c → MergeSite (Live t) (opposite t) (vertex t) c (next c) (next (next c)) (opposite t c) (next (opposite t c)) (next (next (opposite t c)))
    (opposite t (next c)) (opposite t (next (next c))) (opposite t (next (opposite t c))) (opposite t (next (next (opposite t c))))
merge_site t c K = record {
  to2 = refl;
  to0 = refl;
  to5 = refl;
  to3 = refl;
  ring0 = λ d h e. (K.rings d h (inr e)).0;
  ring0r = λ d h e. (K.rings d h (inr e)).1;
  ring2 = λ d h e. (K.rings d h (inl e)).0;
  ring2r = λ d h e. (K.rings d h (inl e)).1;
  wings = K.wings;
  third = K.third;
  third' = K.third';
}

-- with the outer opposites there, a wing vertex gets the corner before the left one
pub winged_left : (vc : List ℕ) (v left right : ℕ) → left ≢ absent → winged vc v left right ≡ set vc v (previous left)
unfolding winged
winged_left vc v left right n = rw (ne_eqb left absent n)

pub either_left : (a b : ℕ) → a ≢ absent → either a b ≡ a
unfolding either
either_left a b n = rw (ne_eqb a absent n)

-- a collapse that isn't refused keeps the table well-formed
pub collapse_wf : (t : Table) → Shaped t → WellFormed t → (c : ℕ) → Safe t c → (at : Point) → finite_point at ≡ true → WellFormed (collapse_edge t c at)
unfolding collapse_edge around collapse_vertices collapse_opposites collapse_marks collapse_corners about cv' co' cm' vc' vm'
collapse_wf t Z W c K at f =
    let c4 : ℕ = opposite t c in
    let B = site (opposite t) c K.alive K.here in
    let A = merge_site t c K in
    let L : Linked (Live t) (opposite t) (vertex t) = table_linked t Z W in
    let n3 : opposite t (next (next c4)) ≢ absent = t3 L B A in
    let n0 : opposite t (next (next c)) ≢ absent = t0 L B A in
    let n5 : opposite t (next c4) ≢ absent = t5 L B A in
    rw (
      winged_left t.vertex_corner (vertex t c4) (opposite t (next (next c4))) (opposite t (next c4)) n3,
      winged_left _ (vertex t c) (opposite t (next (next c))) (opposite t (next c)) n0,
      either_left (opposite t (next c4)) (opposite t (next c)) n5,
      winged_left _ (vertex t (next c)) (opposite t (next c4)) _ n5,
    )
    (u_wf t Z W c (next c) (next (next c)) c4 (next c4) (next (next c4))
    (opposite t (next c)) (opposite t (next (next c))) (opposite t (next c4)) (opposite t (next (next c4))) B A at f)
