-- Collapsing an inner edge whose ends are inner: R2 to R4 and the one fan to a vertex are kept. Assumes nothing.
use mathlib.Core.Path.{◌≡◌, refl, sym, ◌∙◌, subst}
use mathlib.Core.Logic.{◌≢◌}
use Prim.Native.Nat.{ℕ, zero, suc, ◌≤◌, ◌<◌}
use native.Mathlib.Omega.{arith}
use native.Mathlib.Decide.{ℕ_discrete}
use Rattle.corner.specs.Corner.{next, previous}
use Rattle.corner.proofs.Turns.{next_previous, previous_next, next_injective}
use Rattle.corner.specs.Corner.{absent}
use Rattle.table.specs.Rules.{Mate}
use Rattle.fan.proofs.Fan.{swing_l, Left, Conn, stay, fore, conn_trans, conn_sym, conn_eq, simulate, Linked, OneFan, mate_sym, mate_at, linked, left_vertex, face_previous, opp_of}
use Rattle.fan.proofs.Walk.{it, Stop, border, closes, Walk, walk}
use Rattle.fan.proofs.Ring.{stuck_l, lefts}
use Rattle.edit_keeps.proofs.Site.{Six, is1, is2, is0, is4, is5, is3, six?, Site, l2, l0, l5, l3, b4, e0, e2, d20, d01, d45, x1_2, x2_0, x0_1, x4_5, x5_3, x3_4, x1_5, x1_3, x2_4, x2_5, x2_3, x0_4, x0_5, x0_3, six_next, off_previous, off_next, x1_4, s0, s2, s5, s3}
use Rattle.fan.proofs.Redirect.{at, at_same, at_other}

turned : {a b : ℕ} → a ≢ b → b ≢ a
turned h z = h (sym z)

-- what a collapse asks of the two faces and of what lies beyond them, as document 01 and edit.rs have it
pub record MergeSite (live : ℕ → Type 0) (opp vtx : ℕ → ℕ) (c1 c2 c0 c4 c5 c3 o2 o0 o5 o3 : ℕ) : Type 0 where
  pub to2 : opp c2 ≡ o2
  pub to0 : opp c0 ≡ o0
  pub to5 : opp c5 ≡ o5
  pub to3 : opp c3 ≡ o3
  -- not refused: 11, 12, 13
  pub ring0 : (d : ℕ) → live d → vtx d ≡ vtx c0 → opp (next d) ≢ absent
  pub ring0r : (d : ℕ) → live d → vtx d ≡ vtx c0 → opp (previous d) ≢ absent
  pub ring2 : (d : ℕ) → live d → vtx d ≡ vtx c2 → opp (next d) ≢ absent
  pub ring2r : (d : ℕ) → live d → vtx d ≡ vtx c2 → opp (previous d) ≢ absent
  pub wings : vtx c1 ≢ vtx c4
  pub third : (d : ℕ) → live d → ¬ Six c1 c2 c0 c4 c5 c3 d → vtx d ≡ vtx c2 → vtx (next d) ≢ vtx c0
  pub third' : (d : ℕ) → live d → ¬ Six c1 c2 c0 c4 c5 c3 d → vtx d ≡ vtx c0 → vtx (next d) ≢ vtx c2

-- the new table
pub record Merge (live live' : ℕ → Type 0) (opp opp' vtx vtx' : ℕ → ℕ) (c1 c2 c0 c4 c5 c3 o2 o0 o5 o3 : ℕ) : Type 0 where
  pub keep : (d : ℕ) → live d → ¬ Six c1 c2 c0 c4 c5 c3 d → live' d
  pub kept : (d : ℕ) → live' d → live d
  pub gone : (d : ℕ) → live' d → ¬ Six c1 c2 c0 c4 c5 c3 d
  pub no0 : opp' o0 ≡ o2
  pub no2 : opp' o2 ≡ o0
  pub no5 : opp' o5 ≡ o3
  pub no3 : opp' o3 ≡ o5
  pub rest : (d : ℕ) → live' d → d ≢ o0 → d ≢ o2 → d ≢ o5 → d ≢ o3 → opp' d ≡ opp d
  pub w0 : (d : ℕ) → live' d → vtx d ≡ vtx c0 → vtx' d ≡ vtx c2
  pub w : (d : ℕ) → live' d → vtx d ≢ vtx c0 → vtx' d ≡ vtx d

module _ {live : ℕ → Type 0} {opp vtx : ℕ → ℕ} {c1 c2 c0 c4 c5 c3 o2 o0 o5 o3 : ℕ}
    (L : Linked live opp vtx) (B : Site live opp c1 c2 c0 c4 c5 c3) (A : MergeSite live opp vtx c1 c2 c0 c4 c5 c3 o2 o0 o5 o3) where
  abbrev pub S : ℕ → Type 0
  S d = Six c1 c2 c0 c4 c5 c3 d

  pub t2 : opp c2 ≢ absent
  t2 z = A.ring0r c0 (l0 L B) refl (cc B.f.p2)

  pub t0 : opp c0 ≢ absent
  t0 z = A.ring2 c2 (l2 L B) refl (cc B.f.n1)

  pub t5 : opp c5 ≢ absent
  t5 z = A.ring2r c3 (l3 L B) (e2 L B) (cc B.g.p2)

  pub t3 : opp c3 ≢ absent
  t3 z = A.ring0 c5 (l5 L B) (e0 L B) (cc B.g.n1)

  pub lo2 : live o2
  lo2 = subst live A.to2 (L.over c2 (l2 L B) t2)

  pub lo0 : live o0
  lo0 = subst live A.to0 (L.over c0 (l0 L B) t0)

  pub lo5 : live o5
  lo5 = subst live A.to5 (L.over c5 (l5 L B) t5)

  pub lo3 : live o3
  lo3 = subst live A.to3 (L.over c3 (l3 L B) t3)

  pub bo2 : opp o2 ≡ c2
  bo2 = opp_of L c2 o2 (l2 L B) lo2 A.to2

  pub bo0 : opp o0 ≡ c0
  bo0 = opp_of L c0 o0 (l0 L B) lo0 A.to0

  pub bo5 : opp o5 ≡ c5
  bo5 = opp_of L c5 o5 (l5 L B) lo5 A.to5

  pub bo3 : opp o3 ≡ c3
  bo3 = opp_of L c3 o3 (l3 L B) lo3 A.to3

  -- the wings' outer corners stay
  pub so2 : ¬ S o2
  so2 = subst (λ (d : ℕ). ¬ S d) A.to2 (s2 L B A.wings t2)

  pub so0 : ¬ S o0
  so0 = subst (λ (d : ℕ). ¬ S d) A.to0 (s0 L B A.wings t0)

  pub so5 : ¬ S o5
  so5 = subst (λ (d : ℕ). ¬ S d) A.to5 (s5 L B A.wings t5)

  pub so3 : ¬ S o3
  so3 = subst (λ (d : ℕ). ¬ S d) A.to3 (s3 L B A.wings t3)

  module _ {live' : ℕ → Type 0} {opp' vtx' : ℕ → ℕ} (C : Merge live live' opp opp' vtx vtx' c1 c2 c0 c4 c5 c3 o2 o0 o5 o3) where
    ko2 : live' o2
    ko2 = C.keep o2 lo2 so2

    ko0 : live' o0
    ko0 = C.keep o0 lo0 so0

    ko5 : live' o5
    ko5 = C.keep o5 lo5 so5

    ko3 : live' o3
    ko3 = C.keep o3 lo3 so3

    keep_next : (d : ℕ) → live' d → live' (next d)
    keep_next d h = C.keep (next d) (L.face d (C.kept d h)) (off_next L B d (C.gone d h))

    keep_previous : (d : ℕ) → live' d → live' (previous d)
    keep_previous d h = C.keep (previous d) (face_previous L d (C.kept d h)) (off_previous L B d (C.gone d h))

    -- a kept corner against the four
    pub data Four (d : ℕ) : Type 0 where
      at_o0 : d ≡ o0 → Four d
      at_o2 : d ≡ o2 → Four d
      at_o5 : d ≡ o5 → Four d
      at_o3 : d ≡ o3 → Four d
      else : opp' d ≡ opp d → (opp d ≢ absent → live' (opp d)) → (opp d ≢ absent → opp' (opp d) ≡ d) → Four d

    pub four : (d : ℕ) → live' d → Four d
    four d h = go (ℕ_discrete d o0) (ℕ_discrete d o2) (ℕ_discrete d o5) (ℕ_discrete d o3)
      where
        k : live d
        k = C.kept d h

        go : Dec (d ≡ o0) → Dec (d ≡ o2) → Dec (d ≡ o5) → Dec (d ≡ o3) → Four d
        go (yes e) q r s = at_o0 e
        go (no a) (yes e) r s = at_o2 e
        go (no a) (no b) (yes e) s = at_o5 e
        go (no a) (no b) (no c) (yes e) = at_o3 e
        go (no a) (no b) (no c) (no e) = else (C.rest d h a b c e) stays back'
          where
            off : opp d ≢ absent → ¬ S (opp d)
            off t (is1 z) = C.gone d h (is4 (cc (L.pair d k t)))
            off t (is2 z) = b (cc (L.pair d k t))
            off t (is0 z) = a (cc (L.pair d k t))
            off t (is4 z) = C.gone d h (is1 (cc (L.pair d k t, b4 L B)))
            off t (is5 z) = c (cc (L.pair d k t))
            off t (is3 z) = e (cc (L.pair d k t))

            stays : opp d ≢ absent → live' (opp d)
            stays t = C.keep (opp d) (L.over d k t) (off t)

            back' : opp d ≢ absent → opp' (opp d) ≡ d
            back' t =
                let q : opp (opp d) ≡ d = L.pair d k t in
                C.rest (opp d) (stays t) (λ z. C.gone d h (is0 (cc (bo0)))) (λ z. C.gone d h (is2 (cc (bo2)))) (λ z. C.gone d h (is5 (cc (bo5)))) (λ z. C.gone d h (is3 (cc (bo3)))) ∙ q

    -- equal old vertices are equal new ones
    merged : (d e : ℕ) → live' d → live' e → vtx d ≡ vtx e → vtx' d ≡ vtx' e
    merged d e h k z = go (ℕ_discrete (vtx d) (vtx c0))
      where
        go : Dec (vtx d ≡ vtx c0) → vtx' d ≡ vtx' e
        go (yes y) = C.w0 d h y ∙ sym (C.w0 e k (sym z ∙ y))
        go (no y) = cc (C.w d h y, C.w e k (λ u. y (z ∙ u)))

    differs' : (d : ℕ) → live' d → vtx' d ≢ vtx' (next d)
    differs' d h z = go (ℕ_discrete (vtx d) (vtx c0)) (ℕ_discrete (vtx (next d)) (vtx c0))
      where
        k : live d
        k = C.kept d h

        go : Dec (vtx d ≡ vtx c0) → Dec (vtx (next d) ≡ vtx c0) → ⊥
        go (yes a) (yes b) = L.differ d k (a ∙ sym b)
        go (yes a) (no b) = A.third' d k (C.gone d h) a (cc (C.w0 d h a, C.w (next d) (keep_next d h) b))
        go (no a) (yes b) = A.third d k (C.gone d h) (cc (C.w d h a, C.w0 (next d) (keep_next d h) b)) b
        go (no a) (no b) = L.differ d k (cc (C.w d h a, C.w (next d) (keep_next d h) b))

    -- the new pairs
    mo0 : Mate live' opp' vtx' o0 o2
    mo0 = record {
      over = ko2;
      pair = C.no2;
      tail = merged (next o2) (previous o0) (keep_next o2 ko2) (keep_previous o0 ko0) (cc (L.tail c2 (l2 L B) t2, L.head c0 (l0 L B) t0));
      head = cc (C.w0 (previous o2) (keep_previous o2 ko2) (cc (L.head c2 (l2 L B) t2)), C.w (next o0) (keep_next o0 ko0) (λ z. d20 L B (cc (L.tail c0 (l0 L B) t0))), L.tail c0 (l0 L B) t0);
    }

    mo5 : Mate live' opp' vtx' o5 o3
    mo5 = record {
      over = ko3;
      pair = C.no3;
      tail = cc (C.w0 (next o3) (keep_next o3 ko3) (cc (L.tail c3 (l3 L B) t3, e0 L B)), C.w (previous o5) (keep_previous o5 ko5) (λ z. d20 L B (cc (L.head c5 (l5 L B) t5, e2 L B))), L.head c5 (l5 L B) t5, e2 L B);
      head = merged (previous o3) (next o5) (keep_previous o3 ko3) (keep_next o5 ko5) (cc (L.tail c5 (l5 L B) t5, L.head c3 (l3 L B) t3));
    }

    mates' : (d : ℕ) → live' d → opp' d ≢ absent → Mate live' opp' vtx' d (opp' d)
    mates' d h t = go (four d h)
      where
        k : live d
        k = C.kept d h

        go : Four d → Mate live' opp' vtx' d (opp' d)
        go (at_o0 e) = mate_at d o2 (cc) (rw e mo0)
        go (at_o2 e) = mate_at d o0 (cc) (rw e (mate_sym ko0 C.no0 mo0))
        go (at_o5 e) = mate_at d o3 (cc) (rw e mo5)
        go (at_o3 e) = mate_at d o5 (cc) (rw e (mate_sym ko5 C.no5 mo5))
        go (else o y b) =
            let t' : opp d ≢ absent = rw o at t in
            let z : live' (opp d) = y t' in
            mate_at d (opp d) o (record {
              over = z;
              pair = b t';
              tail = merged (next (opp d)) (previous d) (keep_next (opp d) z) (keep_previous d h) (L.tail d k t');
              head = merged (previous (opp d)) (next d) (keep_previous (opp d) z) (keep_next d h) (L.head d k t');
            })

    pub collapse_linked : Linked live' opp' vtx'
    collapse_linked = linked (λ d h. L.present d (C.kept d h)) keep_next differs' mates'

    -- R5
    hop : (d x y e : ℕ) → live' d → next d ≡ x → opp' x ≡ y → live' y → next y ≡ e → Conn (Left live' opp') d e
    hop d x y e h a b t l = fore {d = d} {e = e} stay (record { from = h; there = λ z. L.present y (C.kept y t) (cc); lands = cc })

    -- a step between kept corners is a step afterwards
    plain : (d : ℕ) → live' d → opp (next d) ≢ absent → live' (next (opp (next d))) → Conn (Left live' opp') d (next (opp (next d)))
    plain d h t k = go (four (next d) (keep_next d h))
      where
        bad : S (opp (next d)) → ⊥
        bad s = C.gone (next (opp (next d))) k (six_next L B (opp (next d)) s)

        go : Four (next d) → Conn (Left live' opp') d (next (opp (next d)))
        go (at_o0 e) = absurd (bad (is0 (cc (bo0))))
        go (at_o2 e) = absurd (bad (is2 (cc (bo2))))
        go (at_o5 e) = absurd (bad (is5 (cc (bo5))))
        go (at_o3 e) = absurd (bad (is3 (cc (bo3))))
        go (else o y b) = hop d (next d) (opp (next d)) (next (opp (next d))) h refl o (y t) refl

    module _ (n : ℕ) (below : (d : ℕ) → live d → d < n) where
      -- the deleted vertex's ring, from c5 on
      ring : Walk live (stuck_l opp) (swing_l opp) n c5
      ring = walk (lefts L n below) c5 (l5 L B)

      r : ℕ → ℕ
      r i = it (swing_l opp) c5 i

      r0 : (i : ℕ) → i ≤ ring.last → vtx (r i) ≡ vtx c0
      unfolding r
      r0 zero h = e0 L B
      r0 (suc i) h = cc (r0 i (omega arith), left_vertex L (r i) (ring.lives i (omega arith)) (ring.moves i h))

      r_closes : swing_l opp (r ring.last) ≡ c5
      unfolding r
      r_closes = go ring.ends
        where
          go : Stop (stuck_l opp) (swing_l opp) c5 (r ring.last) → swing_l opp (r ring.last) ≡ c5
          go (border s) = absurd (A.ring0 (r ring.last) (ring.lives ring.last (omega arith)) (r0 ring.last (omega arith)) s)
          go (closes s e) = e

      -- a step onto the next of y comes over y
      came : (x y z : ℕ) → live x → opp (next x) ≢ absent → next (opp (next x)) ≡ z → next y ≡ z → next x ≡ opp y
      came x y z h t e f = cc (L.pair (next x) (L.face x h) t, next_injective (opp (next x)) y (e ∙ sym f))

      r_last : r ring.last ≡ c0
      unfolding r
      r_last =
          let x : ℕ = r ring.last in
          let h : live x = ring.lives ring.last (omega arith) in
          let e : next x ≡ opp c4 = came x c4 c5 h (A.ring0 x h (r0 ring.last (omega arith))) r_closes B.g.n0 in
          cc (previous_next x, b4 L B)

      r_one : r 1 ≡ next o3
      unfolding r
      r_one = cc

      r_kept : (i : ℕ) → 0 < i → i < ring.last → live' (r i)
      unfolding r
      r_kept i a b = C.keep (r i) (ring.lives i (omega arith)) off
        where
          v : vtx (r i) ≡ vtx c0
          v = r0 i (omega arith)

          off : S (r i) → ⊥
          off (is1 z) = d01 L B (cc v)
          off (is2 z) = d20 L B (cc v)
          off (is0 z) = ring.apart i ring.last b (omega arith) (z ∙ sym r_last)
          off (is4 z) = d45 L B (cc (e0 L B, v))
          off (is5 z) = ring.apart 0 i a (omega arith) (sym z)
          off (is3 z) = d20 L B (cc (e2 L B, v))

      r_path : (i : ℕ) → suc i < ring.last → Conn (Left live' opp') (next o3) (r (suc i))
      unfolding r
      r_path zero h = conn_eq (sym r_one)
      r_path (suc i) h = conn_trans (r_path i (omega arith))
          (plain (r (suc i)) (r_kept (suc i) (omega arith) (omega arith)) (ring.moves (suc i) (omega arith)) (r_kept (suc (suc i)) (omega arith) h))

      -- what is left of the deleted vertex's ring joins next o3 to previous o2
      turn : Conn (Left live' opp') (next o3) (previous o2)
      unfolding r
      turn = go ring.last refl
        where
          go : (m : ℕ) → ring.last ≡ m → Conn (Left live' opp') (next o3) (previous o2)
          go zero e = absurd (x0_5 L B (sym (rw e at r_last)))
          go (suc zero) e = absurd (off_next L B o3 so3 (is0 (sym r_one ∙ (rw e at r_last))))
          go (suc (suc m)) e =
              let x : ℕ = r (suc m) in
              let h : live x = ring.lives (suc m) (omega arith) in
              let t : next x ≡ opp c2 = came x c2 c0 h (ring.moves (suc m) (omega arith)) (rw e at r_last) B.f.n1 in
              let y : x ≡ previous o2 = cc (previous_next x) in
              conn_trans (r_path m (omega arith)) (conn_eq y)

      -- where each old corner is found afterwards
      φ : ℕ → ℕ
      φ = at c1 (previous o0) (at c2 (next o0) (at c0 (previous o2) (at c4 (previous o3) (at c5 (next o3) (at c3 (previous o5) (λ d. d))))))

      φ1 : φ c1 ≡ previous o0
      unfolding φ
      φ1 = at_same _ _ _

      φ2 : φ c2 ≡ next o0
      unfolding φ
      φ2 = simp (at_other, at_same, turned (x1_2 L B))

      φ0 : φ c0 ≡ previous o2
      unfolding φ
      φ0 = simp (at_other, at_same, x0_1 L B, turned (x2_0 L B))

      φ4 : φ c4 ≡ previous o3
      unfolding φ
      φ4 = simp (at_other, at_same, turned (x1_4 L B A.wings), turned (x2_4 L B), turned (x0_4 L B))

      φ5 : φ c5 ≡ next o3
      unfolding φ
      φ5 = simp (at_other, at_same, turned (x1_5 L B), turned (x2_5 L B), turned (x0_5 L B), turned (x4_5 L B))

      φ3 : φ c3 ≡ previous o5
      unfolding φ
      φ3 = simp (at_other, at_same, turned (x1_3 L B), turned (x2_3 L B), turned (x0_3 L B), x3_4 L B, turned (x5_3 L B))

      φ-kept : (d : ℕ) → live' d → φ d ≡ d
      unfolding φ
      φ-kept d h =
          let a : d ≢ c1 = λ z. C.gone d h (is1 z) in
          let b : d ≢ c2 = λ z. C.gone d h (is2 z) in
          let c : d ≢ c0 = λ z. C.gone d h (is0 z) in
          let e : d ≢ c4 = λ z. C.gone d h (is4 z) in
          let f : d ≢ c5 = λ z. C.gone d h (is5 z) in
          let g : d ≢ c3 = λ z. C.gone d h (is3 z) in
          simp at_other

      -- the two new steps about the kept vertex
      join : Conn (Left live' opp') (previous o2) (next o0)
      join = hop (previous o2) o2 o0 (next o0) (keep_previous o2 ko2) (next_previous o2) C.no2 ko0 refl

      join' : Conn (Left live' opp') (previous o5) (next o3)
      join' = hop (previous o5) o5 o3 (next o3) (keep_previous o5 ko5) (next_previous o5) C.no5 ko3 refl

      step : (d e : ℕ) → Left live opp d e → Conn (Left live' opp') (φ d) (φ e)
      step d e s = go (six? c1 c2 c0 c4 c5 c3 d)
        where
          t : opp (next d) ≢ absent
          t = s.there

          l : next (opp (next d)) ≡ e
          l = s.lands

          go : Dec (S d) → Conn (Left live' opp') (φ d) (φ e)
          go (yes (is1 h)) =
              let ee : e ≡ next o2 = cc l in
              rw (h, φ1, ee, φ-kept (next o2) (keep_next o2 ko2)) (hop (previous o0) o0 o2 (next o2) (keep_previous o0 ko0) (next_previous o0) C.no0 ko2 refl)
          go (yes (is2 h)) =
              let ee : e ≡ next o0 = cc l in
              rw (h, φ2, ee, φ-kept (next o0) (keep_next o0 ko0)) stay
          go (yes (is0 h)) =
              let ee : e ≡ c5 = cc l in
              rw (h, φ0, ee, φ5) (conn_sym turn)
          go (yes (is4 h)) =
              let ee : e ≡ next o5 = cc l in
              rw (h, φ4, ee, φ-kept (next o5) (keep_next o5 ko5)) (hop (previous o3) o3 o5 (next o5) (keep_previous o3 ko3) (next_previous o3) C.no3 ko5 refl)
          go (yes (is5 h)) =
              let ee : e ≡ next o3 = cc l in
              rw (h, φ5, ee, φ-kept (next o3) (keep_next o3 ko3)) stay
          go (yes (is3 h)) =
              let ee : e ≡ c2 = cc (l, b4 L B) in
              rw (h, φ3, ee, φ2) (conn_trans join' (conn_trans turn join))
          go (no h) = out (four (next d) (keep_next d k))
            where
              k : live' d
              k = C.keep d s.from h

              out : Four (next d) → Conn (Left live' opp') (φ d) (φ e)
              out (at_o0 z) =
                  let ee : e ≡ c1 = cc (l, bo0) in
                  rw (φ-kept d k, ee, φ1) (conn_eq (cc (previous_next d)))
              out (at_o2 z) =
                  let ee : e ≡ c0 = cc (l, bo2) in
                  rw (φ-kept d k, ee, φ0) (conn_eq (cc (previous_next d)))
              out (at_o5 z) =
                  let ee : e ≡ c3 = cc (l, bo5) in
                  rw (φ-kept d k, ee, φ3) (conn_eq (cc (previous_next d)))
              out (at_o3 z) =
                  let ee : e ≡ c4 = cc (l, bo3) in
                  rw (φ-kept d k, ee, φ4) (conn_eq (cc (previous_next d)))
              out (else o y b) =
                  let q : live' e = subst live' l (keep_next (opp (next d)) (y t)) in
                  rw (φ-kept d k, φ-kept e q) (hop d (next d) (opp (next d)) e k refl o (y t) l)

      carry : (d e : ℕ) → live' d → live' e → Conn (Left live opp) d e → Conn (Left live' opp') d e
      carry d e h k p = rw (φ-kept d h, φ-kept e k) at (simulate φ step p)

      -- a kept corner of the deleted vertex and one of the kept vertex
      across : OneFan live opp vtx → (d e : ℕ) → live' d → live' e → vtx d ≡ vtx c0 → vtx e ≡ vtx c2 → Conn (Left live' opp') d e
      unfolding OneFan
      across F d e h k a b =
          let p : Conn (Left live' opp') d (previous o2) = rw (φ-kept d h, φ0) at (simulate φ step (F d c0 (C.kept d h) (l0 L B) a)) in
          let q : Conn (Left live' opp') (next o0) e = rw (φ2, φ-kept e k) at (simulate φ step (F c2 e (l2 L B) (C.kept e k) (sym b))) in
          conn_trans p (conn_trans join q)

      pub collapse_fan : OneFan live opp vtx → OneFan live' opp' vtx'
      unfolding OneFan
      collapse_fan F d e h k z = go (ℕ_discrete (vtx d) (vtx c0)) (ℕ_discrete (vtx e) (vtx c0))
        where
          go : Dec (vtx d ≡ vtx c0) → Dec (vtx e ≡ vtx c0) → Conn (Left live' opp') d e
          go (yes a) (yes b) = carry d e h k (F d e (C.kept d h) (C.kept e k) (a ∙ sym b))
          go (yes a) (no b) = across F d e h k a (cc (C.w0 d h a, C.w e k b))
          go (no a) (yes b) = conn_sym (across F e d k h b (cc (C.w d h a, C.w0 e k b)))
          go (no a) (no b) = carry d e h k (F d e (C.kept d h) (C.kept e k) (cc (C.w d h a, C.w e k b)))
