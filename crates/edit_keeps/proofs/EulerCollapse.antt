-- A collapse keeps vertices minus edges plus faces. Assumes nothing.
use mathlib.Core.Path.{◌≡◌, refl, ap, sym, ◌∙◌}
use mathlib.Core.Logic.{◌≢◌, Ne-symm, ◌⊎◌, inl, inr}
use Prim.Native.Nat.{ℕ, ◌+◌, ◌*◌, ◌<◌, ◌%◌, ◌/◌}
use native.Mathlib.Omega.{arith}
use Rattle.corner.specs.Corner.{next}
use Rattle.corner.proofs.Turns.{next_face, InFace, itself, after, before, in_face}
use Rattle.corner.specs.Corner.{absent}
use Rattle.fan.proofs.Fan.{Linked}
use Rattle.fan.proofs.Redirect.{at, at_other, at_ind}
use Rattle.edit_keeps.proofs.Count.{sum, sum_ext, sum_at, ind, ind_yes, ind_no, ind_iff}
use Rattle.edit_keeps.proofs.Site.{Six, is1, is2, is0, is4, is5, is3, l2, l0, l4, l5, l3, b4, x1_2, x2_0, x0_1, x4_5, x5_3, x3_4, x1_4, x1_5, x1_3, x2_4, x2_5, x2_3, x0_4, x0_5, x0_3, Site, site}
use Rattle.edit_keeps.proofs.Collapse.{MergeSite, Merge, Four, at_o0, at_o2, at_o5, at_o3, else, four, t2, t0, t5, t3, bo2, bo0, bo5, bo3, lo2, lo0, lo5, lo3}
use Rattle.edit_keeps.proofs.Euler.{same_euler, live?, drop6, bare, paired, bare?, paired?, liveV?, edges, faces, vertices}
use Rattle.table.specs.Table.{Table, Live, LiveVertex, opposite, vertex, Shaped}
use Rattle.table.specs.Rules.{WellFormed}
use mathlib.Core.Bool.{true}
use Rattle.vertex.specs.declared.Point.{Point}
use Rattle.vertex.specs.Point.{finite_point}
use Rattle.table.specs.Euler.{SameEuler}
use Rattle.edit_plans.specs.Plans.{around}
use Rattle.edit_collapse.specs.Collapse.{collapse_vertices, collapse_opposites, collapse_marks, collapse_corners, collapse_edge}
use Rattle.fan.proofs.Tables.{table_linked}
use Rattle.edit_keeps.proofs.CollapseTable.{u, the_merge, stays, stayed, Safe, about, winged_left, either_left, merge_site, co', cv', cm', vc', vm'}

module _ {live live' : ℕ → Type 0} {opposite opposite' vertex vertex' : ℕ → ℕ} {c1 c2 c0 c4 c5 c3 o2 o0 o5 o3 : ℕ}
    (L : Linked live opposite vertex) (B : Site live opposite c1 c2 c0 c4 c5 c3) (A : MergeSite live opposite vertex c1 c2 c0 c4 c5 c3 o2 o0 o5 o3)
    (C : Merge live live' opposite opposite' vertex vertex' c1 c2 c0 c4 c5 c3 o2 o0 o5 o3) where
  abbrev S : ℕ → Type 0
  S d = Six c1 c2 c0 c4 c5 c3 d

  -- the six are all paired
  six_paired : (d : ℕ) → S d → live d × (opposite d ≢ absent)
  six_paired d (is1 e) = rw e (B.alive, B.t1)
  six_paired d (is2 e) = rw e (l2 L B, t2 L B A)
  six_paired d (is0 e) = rw e (l0 L B, t0 L B A)
  six_paired d (is4 e) = rw e (l4 L B, λ z. L.present c1 B.alive (cc (b4 L B)))
  six_paired d (is5 e) = rw e (l5 L B, t5 L B A)
  six_paired d (is3 e) = rw e (l3 L B, t3 L B A)

  -- a kept corner has an opposite afterwards if it had one
  same_pair : (d : ℕ) → live' d → (opposite' d ≡ absent → opposite d ≡ absent) × (opposite d ≡ absent → opposite' d ≡ absent)
  same_pair d h = go (four L B A C d h)
    where
      there : (c e x y : ℕ) → d ≡ c → opposite' c ≡ e → live e → opposite c ≡ x → live x → (opposite' d ≡ absent → opposite d ≡ absent) × (opposite d ≡ absent → opposite' d ≡ absent)
      there c e x y z p k q m = (λ a. absurd (L.present e k (cc)), λ a. absurd (L.present x m (cc)))

      go : Four L B A C d → (opposite' d ≡ absent → opposite d ≡ absent) × (opposite d ≡ absent → opposite' d ≡ absent)
      go (at_o0 e) = there o0 o2 c0 0 e C.no0 (lo2 L B A) (bo0 L B A) (l0 L B)
      go (at_o2 e) = there o2 o0 c2 0 e C.no2 (lo0 L B A) (bo2 L B A) (l2 L B)
      go (at_o5 e) = there o5 o3 c5 0 e C.no5 (lo3 L B A) (bo5 L B A) (l5 L B)
      go (at_o3 e) = there o3 o5 c3 0 e C.no3 (lo5 L B A) (bo3 L B A) (l3 L B)
      go (else o y b) = (λ a. sym o ∙ a, λ a. o ∙ a)

  pub bare_same : (n : ℕ) (p : (d : ℕ) → Dec (live d × (opposite d ≡ absent))) (q : (d : ℕ) → Dec (live' d × (opposite' d ≡ absent))) → sum n (λ d. ind (q d)) ≡ sum n (λ d. ind (p d))
  bare_same n p q = sum_ext n _ _ (λ d l. ind_iff (q d) (p d)
      (λ h. (C.kept d h.0, (same_pair d h.0).0 h.1))
      (λ h. let k : live' d = C.keep d h.0 (λ s. (six_paired d s).1 h.1) in (k, (same_pair d k).1 h.1)))

  pub paired_less : (n : ℕ) → ((d : ℕ) → live d → d < n) → (p : (d : ℕ) → Dec (live d × (opposite d ≢ absent))) (q : (d : ℕ) → Dec (live' d × (opposite' d ≢ absent)))
      → sum n (λ d. ind (q d)) + 6 ≡ sum n (λ d. ind (p d))
  paired_less n below p q =
      let f : ℕ → ℕ = λ d. ind (p d) in
      let in6 : (d : ℕ) → S d → d < n = λ d s. below d (six_paired d s).0 in
      let one : (d : ℕ) → S d → ind (p d) ≡ 1 = λ d s. ind_yes (p d) (six_paired d s) in
      let e : sum n (λ d. ind (q d)) ≡ sum n (at c3 0 (at c5 0 (at c4 0 (at c0 0 (at c2 0 (at c1 0 f)))))) = sum_ext n _ _ (λ d l. place d) in
      let s : sum n (at c3 0 (at c5 0 (at c4 0 (at c0 0 (at c2 0 (at c1 0 f)))))) + (f c1 + f c2 + f c0 + f c4 + f c5 + f c3) ≡ sum n f =
      drop6 n f c1 c2 c0 c4 c5 c3 (in6 c1 (is1 refl)) (in6 c2 (is2 refl)) (in6 c0 (is0 refl)) (in6 c4 (is4 refl)) (in6 c5 (is5 refl)) (in6 c3 (is3 refl))
      (Ne-symm (x1_2 L B)) (x0_1 L B) (Ne-symm (x2_0 L B)) (Ne-symm (x1_4 L B A.wings)) (Ne-symm (x2_4 L B)) (Ne-symm (x0_4 L B))
      (Ne-symm (x1_5 L B)) (Ne-symm (x2_5 L B)) (Ne-symm (x0_5 L B)) (Ne-symm (x4_5 L B))
      (Ne-symm (x1_3 L B)) (Ne-symm (x2_3 L B)) (Ne-symm (x0_3 L B)) (x3_4 L B) (Ne-symm (x5_3 L B)) in
      omega (arith, one c1 (is1 refl), one c2 (is2 refl), one c0 (is0 refl), one c4 (is4 refl), one c5 (is5 refl), one c3 (is3 refl))
    where
      place : (d : ℕ) → ind (q d) ≡ at c3 0 (at c5 0 (at c4 0 (at c0 0 (at c2 0 (at c1 0 (λ d. ind (p d))))))) d
      place d = at_ind Q c3 0 _ d (λ e. dead (is3 e)) (λ a. at_ind Q c5 0 _ d (λ e. dead (is5 e)) (λ b. at_ind Q c4 0 _ d (λ e. dead (is4 e)) (λ c.
          at_ind Q c0 0 _ d (λ e. dead (is0 e)) (λ e. at_ind Q c2 0 _ d (λ e. dead (is2 e)) (λ f. at_ind Q c1 0 _ d (λ e. dead (is1 e)) (λ g. kept (none a b c e f g)))))))
        where
          Q : ℕ → Type 0
          Q y = ind (q d) ≡ y

          dead : S d → ind (q d) ≡ 0
          dead s = ind_no (q d) (λ h. C.gone d h.0 s)

          none : d ≢ c3 → d ≢ c5 → d ≢ c4 → d ≢ c0 → d ≢ c2 → d ≢ c1 → ¬ S d
          none a b c e f g (is1 z) = g z
          none a b c e f g (is2 z) = f z
          none a b c e f g (is0 z) = e z
          none a b c e f g (is4 z) = c z
          none a b c e f g (is5 z) = b z
          none a b c e f g (is3 z) = a z

          kept : ¬ S d → ind (q d) ≡ ind (p d)
          kept n = ind_iff (q d) (p d)
              (λ h. (C.kept d h.0, λ z. h.1 ((same_pair d h.0).1 z)))
              (λ h. let k : live' d = C.keep d h.0 n in (k, λ z. h.1 ((same_pair d k).0 z)))

  g2 : c2 / 3 ≡ c1 / 3
  g2 = ap (λ (x : ℕ). x / 3) (sym B.f.n0) ∙ next_face c1

  g0 : c0 / 3 ≡ c1 / 3
  g0 = ap (λ (x : ℕ). x / 3) (sym B.f.n1) ∙ next_face c2 ∙ g2

  g5 : c5 / 3 ≡ c4 / 3
  g5 = ap (λ (x : ℕ). x / 3) (sym B.g.n0) ∙ next_face c4

  g3 : c3 / 3 ≡ c4 / 3
  g3 = ap (λ (x : ℕ). x / 3) (sym B.g.n1) ∙ next_face c5 ∙ g5

  two_faces : c1 / 3 ≢ c4 / 3
  two_faces e = go (in_face c4 c1 e)
    where
      go : InFace c4 c1 → ⊥
      go (itself z) = x1_4 L B A.wings z
      go (after z) = x1_5 L B (z ∙ B.g.n0)
      go (before z) = x1_3 L B (z ∙ B.g.p0)

  -- a face's first corner is one of the six exactly in the two faces
  six_face : (d : ℕ) → S d → (d / 3 ≡ c1 / 3) ⊎ (d / 3 ≡ c4 / 3)
  six_face d (is1 e) = inl (ap (λ (x : ℕ). x / 3) e)
  six_face d (is2 e) = inl (ap (λ (x : ℕ). x / 3) e ∙ g2)
  six_face d (is0 e) = inl (ap (λ (x : ℕ). x / 3) e ∙ g0)
  six_face d (is4 e) = inr (ap (λ (x : ℕ). x / 3) e)
  six_face d (is5 e) = inr (ap (λ (x : ℕ). x / 3) e ∙ g5)
  six_face d (is3 e) = inr (ap (λ (x : ℕ). x / 3) e ∙ g3)

  face_six : (d : ℕ) → d / 3 ≡ c1 / 3 → S d
  face_six d e = go (in_face c1 d e)
    where
      go : InFace c1 d → S d
      go (itself z) = is1 z
      go (after z) = is2 (z ∙ B.f.n0)
      go (before z) = is0 (z ∙ B.f.p0)

  face_six' : (d : ℕ) → d / 3 ≡ c4 / 3 → S d
  face_six' d e = go (in_face c4 d e)
    where
      go : InFace c4 d → S d
      go (itself z) = is4 z
      go (after z) = is5 (z ∙ B.g.n0)
      go (before z) = is3 (z ∙ B.g.p0)

  pub faces_less : (n : ℕ) → n % 3 ≡ 0 → ((d : ℕ) → live d → d < n) → (p : (d : ℕ) → Dec (live d)) (q : (d : ℕ) → Dec (live' d))
      → sum (n / 3) (λ f. ind (q (3 * f))) + 2 ≡ sum (n / 3) (λ f. ind (p (3 * f)))
  faces_less n m below p q =
      let f : ℕ → ℕ = λ f. ind (p (3 * f)) in
      let a : c1 / 3 < n / 3 = omega (arith, below c1 B.alive) in
      let b : c4 / 3 < n / 3 = omega (arith, below c4 (l4 L B)) in
      let va : f (c1 / 3) ≡ 1 = ind_yes (p (3 * (c1 / 3))) (six_paired (3 * (c1 / 3)) (face_six (3 * (c1 / 3)) (omega arith))).0 in
      let vb : f (c4 / 3) ≡ 1 = ind_yes (p (3 * (c4 / 3))) (six_paired (3 * (c4 / 3)) (face_six' (3 * (c4 / 3)) (omega arith))).0 in
      let vb' : at (c1 / 3) 0 f (c4 / 3) ≡ f (c4 / 3) = at_other (c1 / 3) 0 f (c4 / 3) (λ z. two_faces (sym z)) in
      let s1 : sum (n / 3) (at (c1 / 3) 0 f) + f (c1 / 3) ≡ sum (n / 3) f + 0 = sum_at (n / 3) (c1 / 3) 0 f a in
      let s2 : sum (n / 3) (at (c4 / 3) 0 (at (c1 / 3) 0 f)) + at (c1 / 3) 0 f (c4 / 3) ≡ sum (n / 3) (at (c1 / 3) 0 f) + 0 = sum_at (n / 3) (c4 / 3) 0 (at (c1 / 3) 0 f) b in
      let e : sum (n / 3) (λ f. ind (q (3 * f))) ≡ sum (n / 3) (at (c4 / 3) 0 (at (c1 / 3) 0 f)) = sum_ext (n / 3) _ _ (λ i l. place i) in
      omega arith
    where
      place : (i : ℕ) → ind (q (3 * i)) ≡ at (c4 / 3) 0 (at (c1 / 3) 0 (λ f. ind (p (3 * f)))) i
      place i = at_ind Q (c4 / 3) 0 _ i (λ e. ind_no (q (3 * i)) (λ h. C.gone (3 * i) h (face_six' (3 * i) (omega arith)))) (λ a.
          at_ind Q (c1 / 3) 0 _ i (λ e. ind_no (q (3 * i)) (λ h. C.gone (3 * i) h (face_six (3 * i) (omega arith)))) (λ b.
          ind_iff (q (3 * i)) (p (3 * i)) (C.kept (3 * i)) (λ h. C.keep (3 * i) h (λ s. off a b (six_face (3 * i) s)))))
        where
          Q : ℕ → Type 0
          Q y = ind (q (3 * i)) ≡ y

          off : i ≢ c4 / 3 → i ≢ c1 / 3 → ((3 * i) / 3 ≡ c1 / 3) ⊎ ((3 * i) / 3 ≡ c4 / 3) → ⊥
          off a b (inl e) = b (omega arith)
          off a b (inr e) = a (omega arith)

module _ (t : Table) (Z : Shaped t) (W : WellFormed t) (c1 c2 c0 c4 c5 c3 o2 o0 o5 o3 : ℕ)
    (B : Site (Live t) (opposite t) c1 c2 c0 c4 c5 c3) (A : MergeSite (Live t) (opposite t) (vertex t) c1 c2 c0 c4 c5 c3 o2 o0 o5 o3)
    (at' : Point) (good : finite_point at' ≡ true) where
  abbrev t' : Table
  t' = u t Z W c1 c2 c0 c4 c5 c3 o2 o0 o5 o3 B A at' good

  K : Linked (Live t) (opposite t) (vertex t)
  K = table_linked t Z W

  M : Merge (Live t) (Live t') (opposite t) (opposite t') (vertex t) (vertex t') c1 c2 c0 c4 c5 c3 o2 o0 o5 o3
  M = the_merge t Z W c1 c2 c0 c4 c5 c3 o2 o0 o5 o3 B A at' good

  vertex_less : vertices t' + 1 ≡ vertices t
  unfolding vertices
  vertex_less =
      let f : ℕ → ℕ = λ v. ind (liveV? t v) in
      let l : LiveVertex t (vertex t c0) = W.vertex_live c0 (l0 K B) in
      let s : sum t.vertices (at (vertex t c0) 0 f) + f (vertex t c0) ≡ sum t.vertices f + 0 = sum_at t.vertices (vertex t c0) 0 f l.0 in
      let o : f (vertex t c0) ≡ 1 = ind_yes (liveV? t (vertex t c0)) l in
      let e : sum t.vertices (λ v. ind (liveV? t' v)) ≡ sum t.vertices (at (vertex t c0) 0 f) = sum_ext t.vertices _ _ (λ i l. place i) in
      omega arith
    where
      place : (v : ℕ) → ind (liveV? t' v) ≡ at (vertex t c0) 0 (λ v. ind (liveV? t v)) v
      place v = at_ind (λ y. ind (liveV? t' v) ≡ y) (vertex t c0) 0 _ v
          (λ e. ind_no (liveV? t' v) (λ h. (stayed t Z W c1 c2 c0 c4 c5 c3 o2 o0 o5 o3 B A at' good v h).1 e))
          (λ n. ind_iff (liveV? t' v) (liveV? t v) (λ h. (stayed t Z W c1 c2 c0 c4 c5 c3 o2 o0 o5 o3 B A at' good v h).0) (λ h. stays t Z W c1 c2 c0 c4 c5 c3 o2 o0 o5 o3 B A at' good v h n))

  euler : vertices t' + faces t' + edges t ≡ vertices t + faces t + edges t'
  unfolding faces edges bare paired
  euler =
      let b : sum t.corners (λ d. ind (bare? t' d)) ≡ sum t.corners (λ d. ind (bare? t d)) = bare_same K B A M t.corners (bare? t) (bare? t') in
      let p : sum t.corners (λ d. ind (paired? t' d)) + 6 ≡ sum t.corners (λ d. ind (paired? t d)) = paired_less K B A M t.corners (λ d h. h.0) (paired? t) (paired? t') in
      let f : sum (t.corners / 3) (λ f. ind (live? t' (3 * f))) + 2 ≡ sum (t.corners / 3) (λ f. ind (live? t (3 * f))) = faces_less K B A M t.corners W.thirds (λ d h. h.0) (live? t) (live? t') in
      omega (arith, vertex_less)

-- a collapse that isn't refused keeps vertices minus edges plus faces
pub collapse_euler : (t : Table) → Shaped t → WellFormed t → (c : ℕ) → Safe t c → (at : Point) → finite_point at ≡ true → SameEuler t (collapse_edge t c at)
unfolding collapse_edge around collapse_vertices collapse_opposites collapse_marks collapse_corners about cv' co' cm' vc' vm'
collapse_euler t Z W c S at f =
    let c4 : ℕ = opposite t c in
    let B = site (opposite t) c S.alive S.here in
    let A = merge_site t c S in
    let L : Linked (Live t) (opposite t) (vertex t) = table_linked t Z W in
    rw (
      winged_left t.vertex_corner (vertex t c4) (opposite t (next (next c4))) (opposite t (next c4)) (t3 L B A),
      winged_left _ (vertex t c) (opposite t (next (next c))) (opposite t (next c)) (t0 L B A),
      either_left (opposite t (next c4)) (opposite t (next c)) (t5 L B A),
      winged_left _ (vertex t (next c)) (opposite t (next c4)) _ (t5 L B A),
    )
    (same_euler t _ (euler t Z W c (next c) (next (next c)) c4 (next c4) (next (next c4))
    (opposite t (next c)) (opposite t (next (next c))) (opposite t (next c4)) (opposite t (next (next c4))) B A at f))
