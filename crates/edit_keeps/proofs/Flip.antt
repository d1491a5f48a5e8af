-- Flipping an inner edge: R2 to R4 and the one fan to a vertex are kept. Assumes nothing.
use mathlib.Core.Path.{◌≡◌, refl, sym, ◌∙◌, subst}
use mathlib.Core.Logic.{◌≢◌, Ne-symm}
use Prim.Native.Nat.{ℕ}
use Rattle.corner.specs.Corner.{next, previous}
use Rattle.corner.specs.Corner.{absent}
use Rattle.table.specs.Rules.{Mate}
use Rattle.fan.proofs.Fan.{Left, Conn, stay, fore, conn_trans, conn_sym, conn_eq, simulate, Linked, OneFan, mate_sym, mate_at, linked, face_previous, opp_of}
use Rattle.edit_keeps.proofs.Site.{Six, is1, is2, is0, is4, is5, is3, six?, Site, l2, l0, l4, l5, l3, b4, e0, e2, d12, d01, d45, d34, x1_2, x2_0, x0_1, x4_5, x5_3, x3_4, x1_5, x1_3, x2_4, x2_5, x2_3, x0_4, x0_5, x0_3, off_previous, off_next, x1_4, s0, s2, s5, s3}
use Rattle.fan.proofs.Redirect.{at, at_same, at_other}

-- what it writes
pub record Flip (live : ℕ → Type 0) (opp opp' vtx vtx' : ℕ → ℕ) (c1 c2 c0 c4 c5 c3 : ℕ) : Type 0 where
  pub n0 : opp' c0 ≡ opp c5
  pub n1 : opp' c1 ≡ c4
  pub n2 : opp' c2 ≡ opp c0
  pub n3 : opp' c3 ≡ opp c2
  pub n4 : opp' c4 ≡ c1
  pub n5 : opp' c5 ≡ opp c3
  pub over5 : (d : ℕ) → live d → opp d ≡ c5 → opp' d ≡ c0
  pub over0 : (d : ℕ) → live d → opp d ≡ c0 → opp' d ≡ c2
  pub over2 : (d : ℕ) → live d → opp d ≡ c2 → opp' d ≡ c3
  pub over3 : (d : ℕ) → live d → opp d ≡ c3 → opp' d ≡ c5
  pub rest : (d : ℕ) → live d → ¬ Six c1 c2 c0 c4 c5 c3 d → ¬ Six c1 c2 c0 c4 c5 c3 (opp d) → opp' d ≡ opp d
  pub w0 : vtx' c0 ≡ vtx c1
  pub w1 : vtx' c1 ≡ vtx c2
  pub w2 : vtx' c2 ≡ vtx c4
  pub w3 : vtx' c3 ≡ vtx c4
  pub w4 : vtx' c4 ≡ vtx c0
  pub w5 : vtx' c5 ≡ vtx c1
  pub wrest : (d : ℕ) → live d → ¬ Six c1 c2 c0 c4 c5 c3 d → vtx' d ≡ vtx d

module _ {live : ℕ → Type 0} {opp vtx : ℕ → ℕ} {c1 c2 c0 c4 c5 c3 : ℕ} (L : Linked live opp vtx) (A : Site live opp c1 c2 c0 c4 c5 c3)
    (w : vtx c1 ≢ vtx c4) where
  abbrev pub S : ℕ → Type 0
  S d = Six c1 c2 c0 c4 c5 c3 d

  module _ {opp' vtx' : ℕ → ℕ} (C : Flip live opp opp' vtx vtx' c1 c2 c0 c4 c5 c3) where
    -- a corner outside the two faces against them
    pub data Out (d : ℕ) : Type 0 where
      by5 : opp d ≡ c5 → Out d
      by0 : opp d ≡ c0 → Out d
      by2 : opp d ≡ c2 → Out d
      by3 : opp d ≡ c3 → Out d
      far : ¬ S (opp d) → opp' d ≡ opp d → Out d

    pub out : (d : ℕ) → live d → ¬ S d → Out d
    out d h n = go (six? c1 c2 c0 c4 c5 c3 (opp d))
      where
        go : Dec (S (opp d)) → Out d
        go (yes (is1 e)) = absurd (n (is4 (cc (opp_of L d c1 h A.alive e))))
        go (yes (is2 e)) = by2 e
        go (yes (is0 e)) = by0 e
        go (yes (is4 e)) = absurd (n (is1 (cc (opp_of L d c4 h (l4 L A) e, b4 L A))))
        go (yes (is5 e)) = by5 e
        go (yes (is3 e)) = by3 e
        go (no e) = far e (C.rest d h n e)

    hop : (d x y e : ℕ) → live d → next d ≡ x → opp' x ≡ y → live y → next y ≡ e → Conn (Left live opp') d e
    hop d x y e h a b t l = fore {d = d} {e = e} stay (record { from = h; there = λ z. L.present y t (cc); lands = cc })

    -- R2 to R4
    Mated : ℕ → Type 0
    Mated d = opp' d ≢ absent → Mate live opp' vtx' d (opp' d)

    -- an outer corner d that faced x now faces y, whose edge is x's old one
    outer : (d x y : ℕ) → live d → ¬ S d → live x → live y → opp d ≡ x → opp' y ≡ opp x → vtx' (next y) ≡ vtx (next x) → vtx' (previous y) ≡ vtx (previous x) → Mate live opp' vtx' d y
    outer d x y h n k m o p a b =
        let t : opp d ≢ absent = λ z. L.present x k (sym o ∙ z) in
        record {
          over = m;
          pair = p ∙ opp_of L d x h k o;
          tail = cc (L.tail d h t, C.wrest (previous d) (face_previous L d h) (off_previous L A d n));
          head = cc (L.head d h t, C.wrest (next d) (L.face d h) (off_next L A d n));
        }

    -- and the same from y
    inner : (x y : ℕ) → live x → live y → opp' y ≡ opp x → (opp x ≢ absent → ¬ S (opp x)) → ((d : ℕ) → live d → opp d ≡ x → opp' d ≡ y)
        → vtx' (next y) ≡ vtx (next x) → vtx' (previous y) ≡ vtx (previous x) → Mated y
    unfolding Mated
    inner x y k m p n ov a b t =
        let t' : opp x ≢ absent = rw p at t in
        let h : live (opp x) = L.over x k t' in
        let q : opp (opp x) ≡ x = L.pair x k t' in
        mate_at y (opp x) p (mate_sym h (ov (opp x) h q) (outer (opp x) x y h (n t') k m q p a b))

    m14 : Mate live opp' vtx' c1 c4
    m14 = record { over = l4 L A; pair = C.n4; tail = cc; head = cc }

    mated : (d : ℕ) → live d → Mated d
    unfolding Mated
    mated d h t = go (six? c1 c2 c0 c4 c5 c3 d)
      where
        go : Dec (S d) → Mate live opp' vtx' d (opp' d)
        go (yes (is1 e)) = mate_at d c4 (cc) (rw e m14)
        go (yes (is2 e)) = subst Mated (sym e) (inner c0 c2 (l0 L A) (l2 L A) C.n2 (s0 L A w) C.over0 (cc) (cc)) t
        go (yes (is0 e)) = subst Mated (sym e) (inner c5 c0 (l5 L A) (l0 L A) C.n0 (s5 L A w) C.over5 (cc (e2 L A)) (cc)) t
        go (yes (is4 e)) = mate_at d c1 (cc) (rw e (mate_sym A.alive C.n1 m14))
        go (yes (is5 e)) = subst Mated (sym e) (inner c3 c5 (l3 L A) (l5 L A) C.n5 (s3 L A w) C.over3 (cc) (cc (e0 L A))) t
        go (yes (is3 e)) = subst Mated (sym e) (inner c2 c3 (l2 L A) (l3 L A) C.n3 (s2 L A w) C.over2 (cc) (cc)) t
        go (no n) = at' (out d h n)
          where
            at' : Out d → Mate live opp' vtx' d (opp' d)
            at' (by5 o) = mate_at d c0 (C.over5 d h o) (outer d c5 c0 h n (l5 L A) (l0 L A) o C.n0 (cc (e2 L A)) (cc))
            at' (by0 o) = mate_at d c2 (C.over0 d h o) (outer d c0 c2 h n (l0 L A) (l2 L A) o C.n2 (cc) (cc))
            at' (by2 o) = mate_at d c3 (C.over2 d h o) (outer d c2 c3 h n (l2 L A) (l3 L A) o C.n3 (cc) (cc))
            at' (by3 o) = mate_at d c5 (C.over3 d h o) (outer d c3 c5 h n (l3 L A) (l5 L A) o C.n5 (cc) (cc (e0 L A)))
            at' (far m r) =
                let t' : opp d ≢ absent = rw r at t in
                let y : live (opp d) = L.over d h t' in
                let q : opp (opp d) ≡ d = L.pair d h t' in
                mate_at d (opp d) r (record {
                  over = y;
                  pair = C.rest (opp d) y m (λ z. n (subst S q z)) ∙ q;
                  tail = cc (C.wrest (next (opp d)) (L.face (opp d) y) (off_next L A (opp d) m), L.tail d h t', C.wrest (previous d) (face_previous L d h) (off_previous L A d n));
                  head = cc (C.wrest (previous (opp d)) (face_previous L (opp d) y) (off_previous L A (opp d) m), L.head d h t', C.wrest (next d) (L.face d h) (off_next L A d n));
                })

    differs' : (d : ℕ) → live d → vtx' d ≢ vtx' (next d)
    differs' d h z = go (six? c1 c2 c0 c4 c5 c3 d)
      where
        go : Dec (S d) → ⊥
        go (yes (is1 e)) = d34 L A (cc (e2 L A))
        go (yes (is2 e)) = w (cc)
        go (yes (is0 e)) = d12 L A (cc)
        go (yes (is4 e)) = d01 L A (cc)
        go (yes (is5 e)) = w (cc)
        go (yes (is3 e)) = d45 L A (cc (e0 L A))
        go (no n) = L.differ d h (cc (C.wrest d h n, C.wrest (next d) (L.face d h) (off_next L A d n)))

    pub flip_linked : Linked live opp' vtx'
    unfolding Mated
    flip_linked = linked L.present L.face differs' mated

    -- R5
    φ : ℕ → ℕ
    φ = at c1 c0 (at c2 c1 (at c0 c4 (at c4 c2 (at c5 c4 (at c3 c1 (λ d. d))))))

    φ1 : φ c1 ≡ c0
    unfolding φ
    φ1 = at_same _ _ _

    φ2 : φ c2 ≡ c1
    unfolding φ
    φ2 = simp (at_other, at_same, Ne-symm (x1_2 L A))

    φ0 : φ c0 ≡ c4
    unfolding φ
    φ0 = simp (at_other, at_same, x0_1 L A, Ne-symm (x2_0 L A))

    φ4 : φ c4 ≡ c2
    unfolding φ
    φ4 = simp (at_other, at_same, Ne-symm (x1_4 L A w), Ne-symm (x2_4 L A), Ne-symm (x0_4 L A))

    φ5 : φ c5 ≡ c4
    unfolding φ
    φ5 = simp (at_other, at_same, Ne-symm (x1_5 L A), Ne-symm (x2_5 L A), Ne-symm (x0_5 L A), Ne-symm (x4_5 L A))

    φ3 : φ c3 ≡ c1
    unfolding φ
    φ3 = simp (at_other, at_same, Ne-symm (x1_3 L A), Ne-symm (x2_3 L A), Ne-symm (x0_3 L A), x3_4 L A, Ne-symm (x5_3 L A))

    φ-off : (d : ℕ) → ¬ S d → φ d ≡ d
    unfolding φ
    φ-off d n =
        let p : d ≢ c1 = λ z. n (is1 z) in
        let q : d ≢ c2 = λ z. n (is2 z) in
        let r : d ≢ c0 = λ z. n (is0 z) in
        let s : d ≢ c4 = λ z. n (is4 z) in
        let t : d ≢ c5 = λ z. n (is5 z) in
        let u : d ≢ c3 = λ z. n (is3 z) in
        simp at_other

    -- c0 to c5 about v1, c3 to c2 about v3
    h05 : Conn (Left live opp') c0 c5
    h05 = hop c0 c1 c4 c5 (l0 L A) A.f.n2 C.n1 (l4 L A) A.g.n0

    h32 : Conn (Left live opp') c3 c2
    h32 = hop c3 c4 c1 c2 (l3 L A) A.g.n2 C.n4 A.alive A.f.n0

    -- a step over the old edge of x leaves from where its new corner y stands
    leave : (d x y a e : ℕ) → opp x ≢ absent → live x → (opp x ≢ absent → ¬ S (opp x)) → next (opp x) ≡ e → opp' y ≡ opp x → next a ≡ y → live a → Conn (Left live opp') (φ d) a → Conn (Left live opp') (φ d) (φ e)
    leave d x y a e t k n l p b m c =
        let z : live (opp x) = L.over x k t in
        let q : φ e ≡ e = φ-off e (rw (← l) (off_next L A (opp x) (n t))) in
        rw q (conn_trans c (hop a y (opp x) e m b p z l))

    step : (d e : ℕ) → Left live opp d e → Conn (Left live opp') (φ d) (φ e)
    step d e s = go (six? c1 c2 c0 c4 c5 c3 d)
      where
        t : opp (next d) ≢ absent
        t = s.there

        l : next (opp (next d)) ≡ e
        l = s.lands

        go : Dec (S d) → Conn (Left live opp') (φ d) (φ e)
        go (yes (is1 h)) =
            let x : next d ≡ c2 = cc in
            leave d c2 c3 c5 e (rw x at t) (l2 L A) (s2 L A w) (rw x at l) C.n3 A.g.n1 (l5 L A) (rw (h, φ1) h05)
        go (yes (is2 h)) =
            let x : next d ≡ c0 = cc in
            leave d c0 c2 c1 e (rw x at t) (l0 L A) (s0 L A w) (rw x at l) C.n2 A.f.n0 A.alive (rw (h, φ2) stay)
        go (yes (is0 h)) =
            let ee : e ≡ c5 = cc l in
            rw (h, φ0, ee, φ5) stay
        go (yes (is4 h)) =
            let x : next d ≡ c5 = cc in
            leave d c5 c0 c2 e (rw x at t) (l5 L A) (s5 L A w) (rw x at l) C.n0 A.f.n1 (l2 L A) (rw (h, φ4) stay)
        go (yes (is5 h)) =
            let x : next d ≡ c3 = cc in
            leave d c3 c5 c4 e (rw x at t) (l3 L A) (s3 L A w) (rw x at l) C.n5 A.g.n0 (l4 L A) (rw (h, φ5) stay)
        go (yes (is3 h)) =
            let ee : e ≡ c2 = cc (l, b4 L A) in
            rw (h, φ3, ee, φ2) stay
        go (no n) = go' (out (next d) x (off_next L A d n))
          where
            x : live (next d)
            x = L.face d s.from

            p : φ d ≡ d
            p = φ-off d n

            go' : Out (next d) → Conn (Left live opp') (φ d) (φ e)
            go' (by5 o) =
                let ee : e ≡ c3 = cc l in
                rw (p, ee, φ3) (hop d (next d) c0 c1 s.from refl (C.over5 (next d) x o) (l0 L A) A.f.n2)
            go' (by0 o) =
                let ee : e ≡ c1 = cc l in
                rw (p, ee, φ1) (hop d (next d) c2 c0 s.from refl (C.over0 (next d) x o) (l2 L A) A.f.n1)
            go' (by2 o) =
                let ee : e ≡ c0 = cc l in
                rw (p, ee, φ0) (hop d (next d) c3 c4 s.from refl (C.over2 (next d) x o) (l3 L A) A.g.n2)
            go' (by3 o) =
                let ee : e ≡ c4 = cc l in
                rw (p, ee, φ4) (conn_trans (hop d (next d) c5 c3 s.from refl (C.over3 (next d) x o) (l5 L A) A.g.n1) h32)
            go' (far m r) =
                let q : φ e ≡ e = φ-off e (rw (← l) (off_next L A (opp (next d)) m)) in
                rw (p, q) (hop d (next d) (opp (next d)) e s.from refl r (L.over (next d) x t) l)

    -- where a corner of the new table stands
    record Seat (d : ℕ) : Type 0 where
      o : ℕ
      lives : live o
      vertex : vtx' d ≡ vtx o
      near : Conn (Left live opp') d (φ o)

    seat : (d : ℕ) → live d → Seat d
    seat d h = go (six? c1 c2 c0 c4 c5 c3 d)
      where
        go : Dec (S d) → Seat d
        go (yes (is1 e)) = record { o = c2; lives = l2 L A; vertex = cc; near = rw (e, φ2) stay }
        go (yes (is2 e)) = record { o = c4; lives = l4 L A; vertex = cc; near = rw (e, φ4) stay }
        go (yes (is0 e)) = record { o = c1; lives = A.alive; vertex = cc; near = rw (e, φ1) stay }
        go (yes (is4 e)) = record { o = c0; lives = l0 L A; vertex = cc; near = rw (e, φ0) stay }
        go (yes (is5 e)) = record { o = c1; lives = A.alive; vertex = cc; near = rw (e, φ1) (conn_sym h05) }
        go (yes (is3 e)) = record { o = c4; lives = l4 L A; vertex = cc; near = rw (e, φ4) h32 }
        go (no n) = record { o = d; lives = h; vertex = C.wrest d h n; near = conn_eq (sym (φ-off d n)) }

    pub flip_fan : OneFan live opp vtx → OneFan live opp' vtx'
    unfolding OneFan
    flip_fan F d e h k z = go (seat d h) (seat e k)
      where
        go : Seat d → Seat e → Conn (Left live opp') d e
        go a b = conn_trans a.near (conn_trans (simulate φ step (F a.o b.o a.lives b.lives (cc (a.vertex, b.vertex)))) (conn_sym b.near))
