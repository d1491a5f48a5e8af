-- Splitting an inner edge: R2 to R4 and the one fan to a vertex are kept. Assumes nothing.
use mathlib.Core.Path.{◌≡◌, refl, ap, sym, ◌∙◌, subst}
use mathlib.Core.Logic.{◌≢◌, Ne-symm, ◌⊎◌, inl, inr}
use Prim.Native.Nat.{ℕ, ◌+◌, ◌≤◌, ◌<◌}
use native.Mathlib.Omega.{arith}
use native.Mathlib.Decide.{ℕ_discrete}
use Rattle.corner.specs.Corner.{next, previous}
use Rattle.corner.proofs.Turns.{next_previous, previous_next}
use Rattle.corner.specs.Corner.{absent}
use Rattle.table.specs.Rules.{Mate}
use Rattle.fan.proofs.Fan.{Left, Conn, stay, fore, conn_trans, conn_sym, conn_eq, Linked, OneFan, mate_sym, mate_at, linked, face_previous, opp_not_self, opp_not_next, opp_of}
use Rattle.edit_keeps.proofs.SplitFace.{Face3}
use Rattle.edit_keeps.proofs.Site.{Site, l2, l0, l4, l5, l3, b4, e0, e2, d12, d20, d34, x0_1, x1_5, x4_5, x2_3, x0_4}
use Rattle.edit_keeps.proofs.Seats.{Seat, moved_fan}
use Rattle.fan.proofs.Redirect.{at, at_same, at_other}

-- six numbers in a row
pub in_six : (Q : ℕ → Type 0) (a b c e f g : ℕ) → b ≡ a + 1 → c ≡ a + 2 → e ≡ a + 3 → f ≡ a + 4 → g ≡ a + 5
    → Q a → Q b → Q c → Q e → Q f → Q g → (d : ℕ) → a ≤ d → d ≤ a + 5 → Q d
in_six Q a b c e f g eb ec ee ef eg qa qb qc qe qf qg d l h = go (ℕ_discrete d a) (ℕ_discrete d b) (ℕ_discrete d c) (ℕ_discrete d e) (ℕ_discrete d f)
  where
    go : Dec (d ≡ a) → Dec (d ≡ b) → Dec (d ≡ c) → Dec (d ≡ e) → Dec (d ≡ f) → Q d
    go (yes z) p q r s = subst Q (sym z) qa
    go (no n) (yes z) q r s = subst Q (sym z) qb
    go (no n) (no m) (yes z) r s = subst Q (sym z) qc
    go (no n) (no m) (no k) (yes z) s = subst Q (sym z) qe
    go (no n) (no m) (no k) (no j) (yes z) = subst Q (sym z) qf
    go (no n) (no m) (no k) (no j) (no i) = subst Q (omega arith) qg

-- what it writes: new faces c6 c7 c8 and c9 c10 c11, and the vertex u
pub record Split (live live' : ℕ → Type 0) (opp opp' vtx vtx' : ℕ → ℕ) (c1 c2 c0 c4 c5 c3 c6 c7 c8 c9 c10 c11 u : ℕ) : Type 0 where
  pub h : Face3 c6 c7 c8
  pub k : Face3 c9 c10 c11
  pub old : (d : ℕ) → live d → d < c6
  pub e7 : c7 ≡ c6 + 1
  pub e8 : c8 ≡ c6 + 2
  pub e9 : c9 ≡ c6 + 3
  pub e10 : c10 ≡ c6 + 4
  pub e11 : c11 ≡ c6 + 5
  pub small : c6 + 5 < absent
  pub fresh : (d : ℕ) → live d → vtx d ≢ u
  pub grow : (d : ℕ) → live d → live' d
  pub l6 : live' c6
  pub l7 : live' c7
  pub l8 : live' c8
  pub l9 : live' c9
  pub l10 : live' c10
  pub l11 : live' c11
  pub shrink : (d : ℕ) → live' d → live d ⊎ ((c6 ≤ d) × (d ≤ c6 + 5))
  pub n0 : opp' c0 ≡ c7
  pub n7 : opp' c7 ≡ c0
  pub n5 : opp' c5 ≡ c9
  pub n9 : opp' c9 ≡ c5
  pub n6 : opp' c6 ≡ c10
  pub n10 : opp' c10 ≡ c6
  pub n8 : opp c0 ≢ c5 → opp' c8 ≡ opp c0
  pub n11 : opp c0 ≢ c5 → opp' c11 ≡ opp c5
  -- the moved vertex has no third face: the second read sees the first write
  pub n8' : opp c0 ≡ c5 → opp' c8 ≡ c11
  pub n11' : opp c0 ≡ c5 → opp' c11 ≡ c8
  pub over0 : (d : ℕ) → live d → d ≢ c5 → opp d ≡ c0 → opp' d ≡ c8
  pub over5 : (d : ℕ) → live d → d ≢ c0 → opp d ≡ c5 → opp' d ≡ c11
  pub rest : (d : ℕ) → live d → d ≢ c0 → d ≢ c5 → opp d ≢ c0 → opp d ≢ c5 → opp' d ≡ opp d
  pub w2 : vtx' c2 ≡ vtx c2
  pub w3 : vtx' c3 ≡ vtx c2
  pub w6 : vtx' c6 ≡ vtx c1
  pub w7 : vtx' c7 ≡ u
  pub w8 : vtx' c8 ≡ vtx c2
  pub w9 : vtx' c9 ≡ u
  pub w10 : vtx' c10 ≡ vtx c4
  pub w11 : vtx' c11 ≡ vtx c2
  pub wu : (d : ℕ) → live d → d ≢ c2 → d ≢ c3 → vtx d ≡ vtx c2 → vtx' d ≡ u
  pub wr : (d : ℕ) → live d → vtx d ≢ vtx c2 → vtx' d ≡ vtx d

module _ {live : ℕ → Type 0} {opp vtx : ℕ → ℕ} {c1 c2 c0 c4 c5 c3 : ℕ} (L : Linked live opp vtx) (A : Site live opp c1 c2 c0 c4 c5 c3) where
  -- both wings differ from the moved vertex
  pub d42 : vtx c4 ≢ vtx c2
  d42 z = d34 L A (e2 L A ∙ sym z)

  module _ {live' : ℕ → Type 0} {opp' vtx' : ℕ → ℕ} {c6 c7 c8 c9 c10 c11 u : ℕ} (C : Split live live' opp opp' vtx vtx' c1 c2 c0 c4 c5 c3 c6 c7 c8 c9 c10 c11 u) where
    u1 : vtx' c1 ≡ vtx c1
    u1 = C.wr c1 A.alive (d12 L A)

    u4 : vtx' c4 ≡ vtx c4
    u4 = C.wr c4 (l4 L A) d42

    u0 : vtx' c0 ≡ vtx c0
    u0 = C.wr c0 (l0 L A) (λ z. d20 L A (sym z))

    u5 : vtx' c5 ≡ vtx c0
    u5 = C.wr c5 (l5 L A) (λ z. d20 L A (cc (e0 L A))) ∙ e0 L A

    next_not2 : (y : ℕ) → y ≢ c1 → next y ≢ c2
    next_not2 y h z = h (cc (previous_next y))

    next_not3 : (y : ℕ) → y ≢ c5 → next y ≢ c3
    next_not3 y h z = h (cc (previous_next y))

    previous_not2 : (y : ℕ) → y ≢ c0 → previous y ≢ c2
    previous_not2 y h z = h (cc (next_previous y))

    previous_not3 : (y : ℕ) → y ≢ c4 → previous y ≢ c3
    previous_not3 y h z = h (cc (next_previous y))

    -- equal old vertices are equal new ones, away from c2 and c3
    same : (d e : ℕ) → live d → live e → d ≢ c2 → d ≢ c3 → e ≢ c2 → e ≢ c3 → vtx d ≡ vtx e → vtx' d ≡ vtx' e
    same d e h k a b p q z = go (ℕ_discrete (vtx d) (vtx c2))
      where
        go : Dec (vtx d ≡ vtx c2) → vtx' d ≡ vtx' e
        go (yes y) = cc (C.wu d h a b y, C.wu e k p q (sym z ∙ y))
        go (no y) = cc (C.wr d h y, C.wr e k (λ x. y (z ∙ x)))

    Mated : ℕ → Type 0
    Mated d = opp' d ≢ absent → Mate live' opp' vtx' d (opp' d)

    m07 : Mate live' opp' vtx' c0 c7
    m07 = record { over = C.l7; pair = C.n7; tail = cc; head = cc (u1) }

    m59 : Mate live' opp' vtx' c5 c9
    m59 = record { over = C.l9; pair = C.n9; tail = cc (u4); head = cc }

    m610 : Mate live' opp' vtx' c6 c10
    m610 = record { over = C.l10; pair = C.n10; tail = cc; head = cc }

    o1' : opp' c1 ≡ c4
    o1' = C.rest c1 A.alive (Ne-symm (x0_1 L A)) (x1_5 L A) (λ z. x0_4 L A (cc)) (λ z. x4_5 L A (cc)) ∙ A.o1

    o4' : opp' c4 ≡ c1
    o4' = C.rest c4 (l4 L A) (Ne-symm (x0_4 L A)) (x4_5 L A) (λ z. x0_1 L A (cc (b4 L A))) (λ z. x1_5 L A (cc (b4 L A))) ∙ b4 L A

    m14 : Mate live' opp' vtx' c1 c4
    m14 = record { over = C.grow c4 (l4 L A); pair = o4'; tail = cc (u5, u0); head = cc }

    out0 : (d : ℕ) → live d → d ≢ c5 → opp d ≡ c0 → Mate live' opp' vtx' d c8
    out0 d h n o =
        let t : opp d ≢ absent = λ z. L.present c0 (l0 L A) (sym o ∙ z) in
        let b : opp c0 ≡ d = opp_of L d c0 h (l0 L A) o in
        let q : vtx (previous d) ≡ vtx c1 = cc (L.tail d h t) in
        let r : vtx (next d) ≡ vtx c2 = cc (L.head d h t) in
        let x : d ≢ c1 = λ z. x0_4 L A (cc) in
        record {
          over = C.l8;
          pair = C.n8 (λ z. n (sym b ∙ z)) ∙ b;
          tail = cc (C.wr (previous d) (face_previous L d h) (λ z. d12 L A (sym q ∙ z)));
          head = cc (C.wu (next d) (L.face d h) (next_not2 d x) (next_not3 d n) r);
        }

    out5 : (d : ℕ) → live d → d ≢ c0 → opp d ≡ c5 → Mate live' opp' vtx' d c11
    out5 d h n o =
        let t : opp d ≢ absent = λ z. L.present c5 (l5 L A) (sym o ∙ z) in
        let b : opp c5 ≡ d = opp_of L d c5 h (l5 L A) o in
        let q : vtx (previous d) ≡ vtx c2 = cc (L.tail d h t, e2 L A) in
        let r : vtx (next d) ≡ vtx c4 = cc (L.head d h t) in
        let x : d ≢ c4 = λ z. x1_5 L A (cc (b4 L A)) in
        record {
          over = C.l11;
          pair = C.n11 (λ z. n (sym b ∙ opp_of L c0 c5 (l0 L A) (l5 L A) z)) ∙ b;
          tail = cc (C.wu (previous d) (face_previous L d h) (previous_not2 d n) (previous_not3 d x) q);
          head = cc (C.wr (next d) (L.face d h) (λ z. d42 (sym r ∙ z)));
        }

    m811 : opp c0 ≡ c5 → Mate live' opp' vtx' c8 c11
    m811 e =
        let t : opp c0 ≢ absent = λ z. L.present c5 (l5 L A) (sym e ∙ z) in
        record { over = C.l11; pair = C.n11' e; tail = cc; head = cc (L.head c0 (l0 L A) t) }

    -- an old corner against the two outer sides
    data Spot (d : ℕ) : Type 0 where
      is0 : d ≡ c0 → Spot d
      is5 : d ≡ c5 → Spot d
      by0 : d ≢ c0 → d ≢ c5 → opp d ≡ c0 → Spot d
      by5 : d ≢ c0 → d ≢ c5 → opp d ≡ c5 → Spot d
      far : d ≢ c0 → d ≢ c5 → opp d ≢ c0 → opp d ≢ c5 → Spot d

    spot : (d : ℕ) → Spot d
    spot d = go (ℕ_discrete d c0) (ℕ_discrete d c5) (ℕ_discrete (opp d) c0) (ℕ_discrete (opp d) c5)
      where
        go : Dec (d ≡ c0) → Dec (d ≡ c5) → Dec (opp d ≡ c0) → Dec (opp d ≡ c5) → Spot d
        go (yes a) q r s = is0 a
        go (no a) (yes b) r s = is5 b
        go (no a) (no b) (yes c) s = by0 a b c
        go (no a) (no b) (no c) (yes e) = by5 a b e
        go (no a) (no b) (no c) (no e) = far a b c e

    mate_old : (d : ℕ) → live d → Mated d
    unfolding Mated
    mate_old d h t = go (spot d) (ℕ_discrete d c1) (ℕ_discrete d c4)
      where
        go : Spot d → Dec (d ≡ c1) → Dec (d ≡ c4) → Mate live' opp' vtx' d (opp' d)
        go (is0 e) p q = mate_at d c7 (cc) (rw e m07)
        go (is5 e) p q = mate_at d c9 (cc) (rw e m59)
        go (by0 a b e) p q = mate_at d c8 (C.over0 d h b e) (out0 d h b e)
        go (by5 a b e) p q = mate_at d c11 (C.over5 d h a e) (out5 d h a e)
        go (far a b c e) (yes z) q = mate_at d c4 (cc (o1')) (rw z m14)
        go (far a b c e) (no y) (yes z) = mate_at d c1 (cc (o4')) (rw z (mate_sym (C.grow c1 A.alive) o1' m14))
        go (far a b c e) (no y) (no z) =
            let r : opp' d ≡ opp d = C.rest d h a b c e in
            let t' : opp d ≢ absent = rw r at t in
            let y' : live (opp d) = L.over d h t' in
            let q : opp (opp d) ≡ d = L.pair d h t' in
            let p1 : opp d ≢ c1 = λ x. z (sym q ∙ ap opp x ∙ A.o1) in
            let p4 : opp d ≢ c4 = λ x. y (sym q ∙ ap opp x ∙ b4 L A) in
            mate_at d (opp d) r (record {
              over = C.grow (opp d) y';
              pair = C.rest (opp d) y' c e (λ x. a (sym q ∙ x)) (λ x. b (sym q ∙ x)) ∙ q;
              tail = same (next (opp d)) (previous d) (L.face (opp d) y') (face_previous L d h) (next_not2 (opp d) p1) (next_not3 (opp d) e) (previous_not2 d a) (previous_not3 d z) (L.tail d h t');
              head = same (previous (opp d)) (next d) (face_previous L (opp d) y') (L.face d h) (previous_not2 (opp d) c) (previous_not3 (opp d) p4) (next_not2 d y) (next_not3 d b) (L.head d h t');
            })

    mate8 : Mated c8
    unfolding Mated
    mate8 t = go (ℕ_discrete (opp c0) c5)
      where
        go : Dec (opp c0 ≡ c5) → Mate live' opp' vtx' c8 (opp' c8)
        go (yes e) = mate_at c8 c11 (C.n8' e) (m811 e)
        go (no n) =
            let r : opp' c8 ≡ opp c0 = C.n8 n in
            let t' : opp c0 ≢ absent = rw r at t in
            let y : live (opp c0) = L.over c0 (l0 L A) t' in
            let q : opp (opp c0) ≡ c0 = L.pair c0 (l0 L A) t' in
            mate_at c8 (opp c0) r (mate_sym (C.grow (opp c0) y) (C.over0 (opp c0) y n q) (out0 (opp c0) y n q))

    mate11 : Mated c11
    unfolding Mated
    mate11 t = go (ℕ_discrete (opp c0) c5)
      where
        go : Dec (opp c0 ≡ c5) → Mate live' opp' vtx' c11 (opp' c11)
        go (yes e) = mate_at c11 c8 (C.n11' e) (mate_sym C.l8 (C.n8' e) (m811 e))
        go (no n) =
            let r : opp' c11 ≡ opp c5 = C.n11 n in
            let t' : opp c5 ≢ absent = rw r at t in
            let y : live (opp c5) = L.over c5 (l5 L A) t' in
            let q : opp (opp c5) ≡ c5 = L.pair c5 (l5 L A) t' in
            let n' : opp c5 ≢ c0 = λ z. n (cc) in
            mate_at c11 (opp c5) r (mate_sym (C.grow (opp c5) y) (C.over5 (opp c5) y n' q) (out5 (opp c5) y n' q))

    differs_old : (d : ℕ) → live d → vtx' d ≢ vtx' (next d)
    differs_old d h z = go (ℕ_discrete (vtx d) (vtx c2)) (ℕ_discrete (vtx (next d)) (vtx c2))
      where
        k : live (next d)
        k = L.face d h

        -- the new vertex of a corner of the old one
        two : (e : ℕ) → live e → vtx e ≡ vtx c2 → (vtx' e ≡ vtx c2) ⊎ (vtx' e ≡ u)
        two e m x = at' (ℕ_discrete e c2) (ℕ_discrete e c3)
          where
            at' : Dec (e ≡ c2) → Dec (e ≡ c3) → (vtx' e ≡ vtx c2) ⊎ (vtx' e ≡ u)
            at' (yes y) q = inl (ap vtx' y ∙ C.w2)
            at' (no y) (yes w) = inl (ap vtx' w ∙ C.w3)
            at' (no y) (no w) = inr (C.wu e m y w x)

        one : (a b : ℕ) → live a → live b → vtx a ≡ vtx c2 → vtx b ≢ vtx c2 → vtx' a ≡ vtx' b → ⊥
        one a b p q x y s = at' (two a p x)
          where
            at' : (vtx' a ≡ vtx c2) ⊎ (vtx' a ≡ u) → ⊥
            at' (inl e) = y (cc (C.wr b q y))
            at' (inr e) = C.fresh b q (cc (C.wr b q y))

        go : Dec (vtx d ≡ vtx c2) → Dec (vtx (next d) ≡ vtx c2) → ⊥
        go (yes a) (yes b) = L.differ d h (a ∙ sym b)
        go (yes a) (no b) = one d (next d) h k a b z
        go (no a) (yes b) = one (next d) d k h b a (sym z)
        go (no a) (no b) = L.differ d h (cc (C.wr d h a, C.wr (next d) k b))

    each : (Q : ℕ → Type 0) → ((d : ℕ) → live d → Q d) → Q c6 → Q c7 → Q c8 → Q c9 → Q c10 → Q c11 → (d : ℕ) → live' d → Q d
    each Q o q6 q7 q8 q9 q10 q11 d h = go (C.shrink d h)
      where
        go : live d ⊎ ((c6 ≤ d) × (d ≤ c6 + 5)) → Q d
        go (inl m) = o d m
        go (inr m) = in_six Q c6 c7 c8 c9 c10 c11 C.e7 C.e8 C.e9 C.e10 C.e11 q6 q7 q8 q9 q10 q11 d m.0 m.1

    pub split_linked : Linked live' opp' vtx'
    unfolding Mated
    split_linked = linked
        (each (λ d. d ≢ absent) (λ d m. L.present d m) (omega (arith, C.small)) (omega (arith, C.small, C.e7)) (omega (arith, C.small, C.e8))
        (omega (arith, C.small, C.e9)) (omega (arith, C.small, C.e10)) (omega (arith, C.small, C.e11)))
        (each (λ d. live' (next d)) (λ d m. C.grow (next d) (L.face d m)) (rw C.h.n0 C.l7) (rw C.h.n1 C.l8) (rw C.h.n2 C.l6)
        (rw C.k.n0 C.l10) (rw C.k.n1 C.l11) (rw C.k.n2 C.l9))
        (each (λ d. vtx' d ≢ vtx' (next d)) differs_old
        (λ z. C.fresh c1 A.alive (cc)) (λ z. C.fresh c2 (l2 L A) (cc)) (λ z. d12 L A (cc)) (λ z. C.fresh c4 (l4 L A) (cc)) (λ z. d42 (cc)) (λ z. C.fresh c2 (l2 L A) (cc)))
        (each Mated mate_old
        (λ t. mate_at c6 c10 C.n6 m610) (λ t. mate_at c7 c0 C.n7 (mate_sym (C.grow c0 (l0 L A)) C.n0 m07)) mate8
        (λ t. mate_at c9 c5 C.n9 (mate_sym (C.grow c5 (l5 L A)) C.n5 m59)) (λ t. mate_at c10 c6 C.n10 (mate_sym C.l6 C.n6 m610)) mate11)

    -- R5
    φ : ℕ → ℕ
    φ = at c2 c7 (at c3 c9 (λ d. d))

    φ2 : φ c2 ≡ c7
    unfolding φ
    φ2 = at_same _ _ _

    φ3 : φ c3 ≡ c9
    unfolding φ
    φ3 = simp (at_other, at_same, Ne-symm (x2_3 L A))

    φ-off : (d : ℕ) → d ≢ c2 → d ≢ c3 → φ d ≡ d
    unfolding φ
    φ-off d p q = simp at_other

    hop : (d x y e : ℕ) → live' d → next d ≡ x → opp' x ≡ y → live' y → next y ≡ e → Conn (Left live' opp') d e
    hop d x y e h a b t l = fore {d = d} {e = e} stay (record { from = h; there = λ z. split_linked.present y t (cc); lands = cc })

    h97 : Conn (Left live' opp') c9 c7
    h97 = hop c9 c10 c6 c7 C.l9 C.k.n0 C.n10 C.l6 C.h.n0

    h61 : Conn (Left live' opp') c6 c1
    h61 = hop c6 c7 c0 c1 C.l6 C.h.n0 C.n7 (C.grow c0 (l0 L A)) A.f.n2

    h410 : Conn (Left live' opp') c4 c10
    h410 = hop c4 c5 c9 c10 (C.grow c4 (l4 L A)) A.g.n0 C.n5 C.l9 C.k.n0

    step : (d e : ℕ) → Left live opp d e → Conn (Left live' opp') (φ d) (φ e)
    step d e s = go (spot (next d)) (ℕ_discrete d c3)
      where
        t : opp (next d) ≢ absent
        t = s.there

        l : next (opp (next d)) ≡ e
        l = s.lands

        x : live (next d)
        x = L.face d s.from

        not2 : next d ≢ c0 → d ≢ c2
        not2 n z = n (cc)

        -- where a step over c0 or c5 lands
        lands0 : opp c0 ≢ absent → next (opp c0) ≡ e → opp c0 ≢ c5 → φ e ≡ e
        lands0 t' l' n = φ-off e (rw (← l') (next_not2 (opp c0) (λ z. opp_not_next L c0 (l0 L A) t' (z ∙ sym A.f.n2)))) (rw (← l') (next_not3 (opp c0) n))

        lands5 : opp c5 ≢ absent → next (opp c5) ≡ e → φ e ≡ e
        lands5 t' l' = φ-off e (rw (← l') (next_not2 (opp c5) (λ z. x4_5 L A (cc (L.pair c5 (l5 L A) t'))))) (rw (← l') (next_not3 (opp c5) (opp_not_self L c5 (l5 L A) t')))

        go : Spot (next d) → Dec (d ≡ c3) → Conn (Left live' opp') (φ d) (φ e)
        go (is0 h) y = at' (ℕ_discrete (opp c0) c5)
          where
            dd : d ≡ c2
            dd = cc (previous_next d)

            at' : Dec (opp c0 ≡ c5) → Conn (Left live' opp') (φ d) (φ e)
            at' (yes z) =
                let ee : e ≡ c3 = cc l in
                rw (dd, φ2, ee, φ3) (hop c7 c8 c11 c9 C.l7 C.h.n1 (C.n8' z) C.l11 C.k.n2)
            at' (no z) =
                let t' : opp c0 ≢ absent = rw h at t in
                let l' : next (opp c0) ≡ e = rw h at l in
                rw (dd, φ2, lands0 t' l' z) (hop c7 c8 (opp c0) e C.l7 C.h.n1 (C.n8 z) (C.grow (opp c0) (L.over c0 (l0 L A) t')) l')
        go (is5 h) y = at' (ℕ_discrete (opp c0) c5)
          where
            dd : d ≡ c4
            dd = cc (previous_next d)

            p : φ d ≡ c4
            p = φ-off d (λ z. d42 (cc dd)) (λ z. d42 (cc (dd, e2 L A))) ∙ dd

            t' : opp c5 ≢ absent
            t' = rw h at t

            l' : next (opp c5) ≡ e
            l' = rw h at l

            at' : Dec (opp c0 ≡ c5) → Conn (Left live' opp') (φ d) (φ e)
            at' (yes z) =
                let ee : e ≡ c1 = cc (l', opp_of L c0 c5 (l0 L A) (l5 L A) z) in
                rw (p, lands5 t' l', ee) (conn_trans h410 (conn_trans (hop c10 c11 c8 c6 C.l10 C.k.n1 (C.n11' z) C.l8 C.h.n2) h61))
            at' (no z) =
                rw (p, lands5 t' l') (conn_trans h410 (hop c10 c11 (opp c5) e C.l10 C.k.n1 (C.n11 z) (C.grow (opp c5) (L.over c5 (l5 L A) t')) l'))
        go (by0 a b o) y =
            let ee : e ≡ c1 = cc l in
            let p : φ d ≡ d = φ-off d (not2 a) (λ z. x0_1 L A (cc (b4 L A))) in
            let q : φ c1 ≡ c1 = φ-off c1 (λ z. d12 L A (cc)) (λ z. d12 L A (cc (e2 L A))) in
            rw (p, ee, q) (conn_trans (hop d (next d) c8 c6 (C.grow d s.from) refl (C.over0 (next d) x b o) C.l8 C.h.n2) h61)
        go (by5 a b o) y =
            let ee : e ≡ c3 = cc l in
            let p : φ d ≡ d = φ-off d (not2 a) (λ z. x1_5 L A (cc (b4 L A))) in
            rw (p, ee, φ3) (hop d (next d) c11 c9 (C.grow d s.from) refl (C.over5 (next d) x a o) C.l11 C.k.n2)
        go (far a b o q) (yes y) =
            let ee : e ≡ c2 = cc (l, b4 L A) in
            rw (y, φ3, ee, φ2) h97
        go (far a b o q) (no y) =
            let p : φ d ≡ d = φ-off d (not2 a) y in
            let m : opp (next d) ≢ c1 = λ z. y (cc (opp_of L (next d) c1 x A.alive z, previous_next d)) in
            let r : φ e ≡ e = φ-off e (rw (← l) (next_not2 (opp (next d)) m)) (rw (← l) (next_not3 (opp (next d)) q)) in
            rw (p, r) (hop d (next d) (opp (next d)) e (C.grow d s.from) refl (C.rest (next d) x a b o q) (C.grow (opp (next d)) (L.over (next d) x t)) l)

    h32 : Conn (Left live' opp') c3 c2
    h32 = hop c3 c4 c1 c2 (C.grow c3 (l3 L A)) A.g.n2 o4' (C.grow c1 A.alive) A.f.n0

    abbrev Place : ℕ → Type 0
    Place = Seat live live' opp' vtx vtx' c2 u φ

    seat : (d : ℕ) → live' d → Place d
    seat = each Place old
        (inr (record {
          o = c1;
          lives = A.alive;
          new = λ z. absurd (d12 L A z);
          kept = λ z. C.w6;
          near = rw (φ-off c1 (λ z. d12 L A (cc)) (λ z. d12 L A (cc (e2 L A)))) h61;
        }))
        (inr (record { o = c2; lives = l2 L A; new = λ z. C.w7; kept = λ n. absurd (n refl); near = rw φ2 stay }))
        (inl (C.w8, conn_sym (hop c2 c0 c7 c8 (C.grow c2 (l2 L A)) A.f.n1 C.n0 C.l7 C.h.n1)))
        (inr (record { o = c3; lives = l3 L A; new = λ z. C.w9; kept = λ n. absurd (n (e2 L A)); near = rw φ3 stay }))
        (inr (record {
          o = c4;
          lives = l4 L A;
          new = λ z. absurd (d42 z);
          kept = λ z. C.w10;
          near = rw (φ-off c4 (λ z. d42 (cc)) (λ z. d42 (cc (e2 L A)))) (conn_sym h410);
        }))
        (inl (C.w11, conn_trans (hop c11 c9 c5 c3 C.l11 C.k.n2 C.n9 (C.grow c5 (l5 L A)) A.g.n1) h32))
      where
        old : (d : ℕ) → live d → Place d
        old d h = go (ℕ_discrete d c2) (ℕ_discrete d c3)
          where
            go : Dec (d ≡ c2) → Dec (d ≡ c3) → Place d
            go (yes e) q = inl (ap vtx' e ∙ C.w2, conn_eq e)
            go (no n) (yes e) = inl (ap vtx' e ∙ C.w3, rw e h32)
            go (no n) (no m) = inr (record { o = d; lives = h; new = C.wu d h n m; kept = C.wr d h; near = conn_eq (sym (φ-off d n m)) })

    pub split_fan : OneFan live opp vtx → OneFan live' opp' vtx'
    split_fan = moved_fan live live' opp' vtx vtx' c2 u φ opp (l2 L A) C.fresh step seat
