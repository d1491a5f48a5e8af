-- Splitting a face: R2 to R4 and the one fan to a vertex are kept. Assumes nothing.
use mathlib.Core.Path.{◌≡◌, refl, ap, sym, ◌∙◌, subst}
use mathlib.Core.Logic.{◌≢◌, ◌⊎◌, inl, inr}
use Prim.Native.Nat.{ℕ, ◌+◌, ◌≤◌, ◌<◌}
use native.Mathlib.Omega.{arith}
use native.Mathlib.Decide.{ℕ_discrete}
use Rattle.corner.specs.Corner.{next, previous}
use Rattle.corner.proofs.Turns.{next_differs, next_next, next_previous, previous_next}
use Rattle.corner.specs.Corner.{absent}
use Rattle.table.specs.Rules.{Mate}
use Rattle.fan.proofs.Fan.{Left, Conn, stay, fore, conn_trans, conn_sym, conn_eq, simulate, Linked, OneFan, mate_sym, mate_at, linked, face_previous, opp_not_self, opp_not_next, opp_not_previous, opp_of}

-- the three corners of a face in their order
pub record Face3 (a b c : ℕ) : Type 0 where
  pub n0 : next a ≡ b
  pub n1 : next b ≡ c
  pub n2 : next c ≡ a
  pub p0 : previous a ≡ c
  pub p1 : previous b ≡ a
  pub p2 : previous c ≡ b

pub face3 : (a b c : ℕ) → next a ≡ b → next b ≡ c → Face3 a b c
face3 a b c e f =
    let g : previous a ≡ c = cc (next_next a) in
    record { n0 = e; n1 = f; n2 = cc (next_previous a); p0 = g; p1 = cc (previous_next a); p2 = cc (previous_next b) }

-- what a face split writes, as document 01 and edit.rs have it: faces c0 c1 c2 (with the new vertex v at c2), c3 c4 c5 and c6 c7 c8
pub record Cut (live live' : ℕ → Type 0) (opp opp' vtx vtx' : ℕ → ℕ) (c0 c1 c2 c3 c4 c5 c6 c7 c8 v : ℕ) : Type 0 where
  pub f0 : Face3 c0 c1 c2
  pub f3 : Face3 c3 c4 c5
  pub f6 : Face3 c6 c7 c8
  pub alive : live c0
  pub old : (d : ℕ) → live d → d < c3
  pub e4 : c4 ≡ c3 + 1
  pub e5 : c5 ≡ c3 + 2
  pub e6 : c6 ≡ c3 + 3
  pub e7 : c7 ≡ c3 + 4
  pub e8 : c8 ≡ c3 + 5
  pub small : c3 + 5 < absent
  pub fresh : (d : ℕ) → live d → vtx d ≢ v
  pub grow : (d : ℕ) → live d → live' d
  pub l3 : live' c3
  pub l4 : live' c4
  pub l5 : live' c5
  pub l6 : live' c6
  pub l7 : live' c7
  pub l8 : live' c8
  pub shrink : (d : ℕ) → live' d → live d ⊎ ((c3 ≤ d) × (d ≤ c3 + 5))
  pub o0 : opp' c0 ≡ c4
  pub o4 : opp' c4 ≡ c0
  pub o3 : opp' c3 ≡ c7
  pub o7 : opp' c7 ≡ c3
  pub o6 : opp' c6 ≡ c1
  pub o1 : opp' c1 ≡ c6
  pub o8 : opp' c8 ≡ opp c1
  pub o5 : opp' c5 ≡ opp c0
  pub over0 : (d : ℕ) → live d → opp d ≡ c0 → opp' d ≡ c5
  pub over1 : (d : ℕ) → live d → opp d ≡ c1 → opp' d ≡ c8
  pub rest : (d : ℕ) → live d → d ≢ c0 → d ≢ c1 → opp d ≢ c0 → opp d ≢ c1 → opp' d ≡ opp d
  pub v2 : vtx' c2 ≡ v
  pub v3 : vtx' c3 ≡ vtx c1
  pub v4 : vtx' c4 ≡ vtx c2
  pub v5 : vtx' c5 ≡ v
  pub v6 : vtx' c6 ≡ vtx c2
  pub v7 : vtx' c7 ≡ vtx c0
  pub v8 : vtx' c8 ≡ v
  pub vrest : (d : ℕ) → live d → d ≢ c2 → vtx' d ≡ vtx d

-- a corner against the split face
pub data Spot (opp : ℕ → ℕ) (c0 c1 c2 d : ℕ) : Type 0 where
  is0 : d ≡ c0 → Spot opp c0 c1 c2 d
  is1 : d ≡ c1 → Spot opp c0 c1 c2 d
  on0 : opp d ≡ c0 → d ≢ c0 → d ≢ c1 → Spot opp c0 c1 c2 d
  on1 : opp d ≡ c1 → d ≢ c0 → d ≢ c1 → Spot opp c0 c1 c2 d
  off : d ≢ c0 → d ≢ c1 → opp d ≢ c0 → opp d ≢ c1 → Spot opp c0 c1 c2 d

pub spot : (opp : ℕ → ℕ) (c0 c1 c2 d : ℕ) → Spot opp c0 c1 c2 d
spot opp c0 c1 c2 d = go (ℕ_discrete d c0) (ℕ_discrete d c1) (ℕ_discrete (opp d) c0) (ℕ_discrete (opp d) c1)
  where
    go : Dec (d ≡ c0) → Dec (d ≡ c1) → Dec (opp d ≡ c0) → Dec (opp d ≡ c1) → Spot opp c0 c1 c2 d
    go (yes a) y z w = is0 a
    go (no a) (yes b) z w = is1 b
    go (no a) (no b) (yes e) w = on0 e a b
    go (no a) (no b) (no e) (yes f) = on1 f a b
    go (no a) (no b) (no e) (no f) = off a b e f

-- the old corner c2 is c4 afterwards
pub moved : (c2 c4 d : ℕ) → Dec (d ≡ c2) → ℕ
moved c2 c4 d (yes e) = c4
moved c2 c4 d (no e) = d

module _ {live live' : ℕ → Type 0} {opp opp' vtx vtx' : ℕ → ℕ} {c0 c1 c2 c3 c4 c5 c6 c7 c8 v : ℕ}
    (L : Linked live opp vtx) (C : Cut live live' opp opp' vtx vtx' c0 c1 c2 c3 c4 c5 c6 c7 c8 v) where
  live1 : live c1
  live1 = subst live C.f0.n0 (L.face c0 C.alive)

  live2 : live c2
  live2 = subst live C.f0.n1 (L.face c1 live1)

  pub φ : ℕ → ℕ
  φ d = moved c2 c4 d (ℕ_discrete d c2)

  φ-same : φ c2 ≡ c4
  unfolding φ moved
  φ-same = go (ℕ_discrete c2 c2)
    where
      go : (x : Dec (c2 ≡ c2)) → moved c2 c4 c2 x ≡ c4
      go (yes e) = refl
      go (no e) = absurd (e refl)

  φ-other : (d : ℕ) → d ≢ c2 → φ d ≡ d
  unfolding φ moved
  φ-other d h = go (ℕ_discrete d c2)
    where
      go : (x : Dec (d ≡ c2)) → moved c2 c4 d x ≡ d
      go (yes e) = absurd (h e)
      go (no e) = refl

  hop : (d x y e : ℕ) → live' d → next d ≡ x → opp' x ≡ y → y ≢ absent → next y ≡ e → Conn (Left live' opp') d e
  hop d x y e h a b t l = fore {d = d} {e = e} stay (record { from = h; there = λ z. t (cc); lands = cc })

  not_c2 : (y e : ℕ) → next y ≡ e → y ≢ c1 → e ≢ c2
  not_c2 y e l h z = h (cc (previous_next y, C.f0.p2))

  not_c2' : (d : ℕ) → next d ≢ c0 → d ≢ c2
  not_c2' d h z = h (cc C.f0.n2)

  step : (d e : ℕ) → Left live opp d e → Conn (Left live' opp') (φ d) (φ e)
  step d e s = go (spot opp c0 c1 c2 (next d))
    where
      here : live d
      here = s.from

      t : opp (next d) ≢ absent
      t = s.there

      l : next (opp (next d)) ≡ e
      l = s.lands

      x : live (next d)
      x = L.face d here

      go : Spot opp c0 c1 c2 (next d) → Conn (Left live' opp') (φ d) (φ e)
      go (is0 h) =
          let dd : d ≡ c2 = cc (previous_next d, C.f0.p0) in
          let p : φ d ≡ c4 = ap φ dd ∙ φ-same in
          let t' : opp c0 ≢ absent = rw h at t in
          let q : φ e ≡ e = φ-other e (not_c2 (opp (next d)) e l (λ z. opp_not_next L c0 C.alive t' (cc C.f0.n0))) in
          rw (p, q) (hop c4 c5 (opp c0) e C.l4 C.f3.n1 C.o5 t' (rw h at l))
      go (is1 h) =
          let dd : d ≡ c0 = cc (previous_next d, C.f0.p1) in
          let p : φ d ≡ c0 = φ-other d (λ z. next_differs c2 (cc C.f0.n2)) ∙ dd in
          let t' : opp c1 ≢ absent = rw h at t in
          let q : φ e ≡ e = φ-other e (not_c2 (opp (next d)) e l (λ z. opp_not_self L c1 live1 t' (cc))) in
          rw (p, q) (conn_trans
          (hop c0 c1 c6 c7 (C.grow c0 C.alive) C.f0.n0 C.o1 (omega (arith, C.e6, C.small)) C.f6.n0)
          (hop c7 c8 (opp c1) e C.l7 C.f6.n1 C.o8 t' (rw h at l)))
      go (on0 o h k) =
          let p : φ d ≡ d = φ-other d (not_c2' d h) in
          let q : φ e ≡ c1 = φ-other e (not_c2 c0 e (cc) (λ z. next_differs c0 (cc C.f0.n0))) ∙ cc C.f0.n0 in
          rw (p, q) (conn_trans
          (hop d (next d) c5 c3 (C.grow d here) refl (C.over0 (next d) x o) (omega (arith, C.e5, C.small)) C.f3.n2)
          (hop c3 c4 c0 c1 C.l3 C.f3.n0 C.o4 (L.present c0 C.alive) C.f0.n0))
      go (on1 o h k) =
          let p : φ d ≡ d = φ-other d (not_c2' d h) in
          let ee : e ≡ c2 = cc C.f0.n1 in
          let q : φ e ≡ c4 = ap φ ee ∙ φ-same in
          rw (p, q) (conn_trans
          (hop d (next d) c8 c6 (C.grow d here) refl (C.over1 (next d) x o) (omega (arith, C.e8, C.small)) C.f6.n2)
          (hop c6 c7 c3 c4 C.l6 C.f6.n0 C.o7 (omega (arith, C.small)) C.f3.n0))
      go (off h k o q) =
          let p : φ d ≡ d = φ-other d (not_c2' d h) in
          let r : φ e ≡ e = φ-other e (not_c2 (opp (next d)) e l q) in
          rw (p, r) (hop d (next d) (opp (next d)) e (C.grow d here) refl (C.rest (next d) x h k o q) t l)

  -- an old path is a new path
  pub carry : {d e : ℕ} → Conn (Left live opp) d e → Conn (Left live' opp') (φ d) (φ e)
  carry = simulate φ step

  -- a new live corner is at the new vertex and in its fan, or beside the image of an old corner of its vertex
  Seat : ℕ → Type 0
  Seat d = ((vtx' d ≡ v) × Conn (Left live' opp') d c5) ⊎ (record { o : ℕ; lives : live o; vertex : vtx' d ≡ vtx o; near : Conn (Left live' opp') d (φ o) })

  c0≢c2 : c0 ≢ c2
  c0≢c2 z = next_differs c2 (cc C.f0.n2)

  c1≢c2 : c1 ≢ c2
  c1≢c2 z = next_differs c1 (cc C.f0.n1)

  at0 : φ c0 ≡ c0
  at0 = φ-other c0 c0≢c2

  at1 : φ c1 ≡ c1
  at1 = φ-other c1 c1≢c2

  seat_old : (d : ℕ) → live d → Dec (d ≡ c2) → Seat d
  unfolding Seat
  seat_old d h (yes e) = inl (
    ap vtx' e ∙ C.v2,
    rw e
        (hop c2 c0 c4 c5 (C.grow c2 live2) C.f0.n2 C.o0 (omega (arith, C.e4, C.small)) C.f3.n1),
  )
  seat_old d h (no e) = inr (record { o = d; lives = h; vertex = C.vrest d h e; near = conn_eq (sym (φ-other d e)) })

  seat_new : (d : ℕ) → c3 ≤ d → d ≤ c3 + 5 → Seat d
  unfolding Seat
  seat_new d a b = go3 (ℕ_discrete d c3) (ℕ_discrete d c4) (ℕ_discrete d c5) (ℕ_discrete d c6) (ℕ_discrete d c7)
    where
      go3 : Dec (d ≡ c3) → Dec (d ≡ c4) → Dec (d ≡ c5) → Dec (d ≡ c6) → Dec (d ≡ c7) → Seat d
      go3 (yes e) p q r s = inr (record {
        o = c1;
        lives = live1;
        vertex = ap vtx' e ∙ C.v3;
        near = rw (e, at1) (hop c3 c4 c0 c1 C.l3 C.f3.n0 C.o4 (L.present c0 C.alive) C.f0.n0);
      })
      go3 (no n3) (yes e) q r s = inr (record { o = c2; lives = live2; vertex = ap vtx' e ∙ C.v4; near = rw (e, φ-same) stay })
      go3 (no n3) (no n4) (yes e) r s = inl (ap vtx' e ∙ C.v5, rw e stay)
      go3 (no n3) (no n4) (no n5) (yes e) s = inr (record {
        o = c2;
        lives = live2;
        vertex = ap vtx' e ∙ C.v6;
        near = rw (e, φ-same) (hop c6 c7 c3 c4 C.l6 C.f6.n0 C.o7 (omega (arith, C.small)) C.f3.n0);
      })
      go3 (no n3) (no n4) (no n5) (no n6) (yes e) = inr (record {
        o = c0;
        lives = C.alive;
        vertex = ap vtx' e ∙ C.v7;
        near = rw (e, at0) (conn_sym (hop c0 c1 c6 c7 (C.grow c0 C.alive) C.f0.n0 C.o1 (omega (arith, C.e6, C.small)) C.f6.n0));
      })
      go3 (no n3) (no n4) (no n5) (no n6) (no n7) =
          let e : d ≡ c8 = omega (arith, C.e4, C.e5, C.e6, C.e7, C.e8) in
          inl (ap vtx' e ∙ C.v8, rw e (conn_sym (hop c5 c3 c7 c8 C.l5 C.f3.n2 C.o3 (omega (arith, C.e7, C.small)) C.f6.n1)))

  seat : (d : ℕ) → live' d → Seat d
  seat d h = go (C.shrink d h)
    where
      go : live d ⊎ ((c3 ≤ d) × (d ≤ c3 + 5)) → Seat d
      go (inl k) = seat_old d k (ℕ_discrete d c2)
      go (inr k) = seat_new d k.0 k.1

  -- R5 is kept
  pub cut_fan : OneFan live opp vtx → OneFan live' opp' vtx'
  unfolding OneFan Seat
  cut_fan F d e h k s = go (seat d h) (seat e k)
    where
      go : Seat d → Seat e → Conn (Left live' opp') d e
      go (inl a) (inl b) = conn_trans a.1 (conn_sym b.1)
      go (inl a) (inr b) = absurd (C.fresh b.o b.lives (cc (a.0, b.vertex)))
      go (inr a) (inl b) = absurd (C.fresh a.o a.lives (cc (b.0, a.vertex)))
      go (inr a) (inr b) = conn_trans a.near (conn_trans (carry (F a.o b.o a.lives b.lives (cc (a.vertex, b.vertex)))) (conn_sym b.near))

  -- R2 to R4 are kept
  data New (d : ℕ) : Type 0 where
    is3 : d ≡ c3 → New d
    is4 : d ≡ c4 → New d
    is5 : d ≡ c5 → New d
    is6 : d ≡ c6 → New d
    is7 : d ≡ c7 → New d
    is8 : d ≡ c8 → New d

  new : (d : ℕ) → c3 ≤ d → d ≤ c3 + 5 → New d
  new d a b = go (ℕ_discrete d c3) (ℕ_discrete d c4) (ℕ_discrete d c5) (ℕ_discrete d c6) (ℕ_discrete d c7)
    where
      go : Dec (d ≡ c3) → Dec (d ≡ c4) → Dec (d ≡ c5) → Dec (d ≡ c6) → Dec (d ≡ c7) → New d
      go (yes e) p q r s = is3 e
      go (no n3) (yes e) q r s = is4 e
      go (no n3) (no n4) (yes e) r s = is5 e
      go (no n3) (no n4) (no n5) (yes e) s = is6 e
      go (no n3) (no n4) (no n5) (no n6) (yes e) = is7 e
      go (no n3) (no n4) (no n5) (no n6) (no n7) = is8 (omega (arith, C.e4, C.e5, C.e6, C.e7, C.e8))

  -- a statement on every new live corner: on the old ones and on the six
  each : (Q : ℕ → Type 0) → ((d : ℕ) → live d → Q d) → Q c3 → Q c4 → Q c5 → Q c6 → Q c7 → Q c8 → (d : ℕ) → live' d → Q d
  each Q o q3 q4 q5 q6 q7 q8 d h = go (C.shrink d h)
    where
      at : New d → Q d
      at (is3 e) = subst Q (sym e) q3
      at (is4 e) = subst Q (sym e) q4
      at (is5 e) = subst Q (sym e) q5
      at (is6 e) = subst Q (sym e) q6
      at (is7 e) = subst Q (sym e) q7
      at (is8 e) = subst Q (sym e) q8

      go : live d ⊎ ((c3 ≤ d) × (d ≤ c3 + 5)) → Q d
      go (inl k) = o d k
      go (inr k) = at (new d k.0 k.1)

  u0 : vtx' c0 ≡ vtx c0
  u0 = C.vrest c0 C.alive c0≢c2

  u1 : vtx' c1 ≡ vtx c1
  u1 = C.vrest c1 live1 c1≢c2

  d01 : vtx c0 ≢ vtx c1
  d01 z = L.differ c0 C.alive (cc C.f0.n0)

  d12 : vtx c1 ≢ vtx c2
  d12 z = L.differ c1 live1 (cc C.f0.n1)

  d20 : vtx c2 ≢ vtx c0
  d20 z = L.differ c2 live2 (cc C.f0.n2)

  differ_old : (d : ℕ) → live d → vtx' d ≢ vtx' (next d)
  differ_old d h = go (ℕ_discrete d c1) (ℕ_discrete d c2)
    where
      go : Dec (d ≡ c1) → Dec (d ≡ c2) → vtx' d ≢ vtx' (next d)
      go (yes e) q z = C.fresh c1 live1 (cc (u1, C.f0.n1, C.v2))
      go (no e) (yes f) z = C.fresh c0 C.alive (cc (u0, C.f0.n2, C.v2))
      go (no e) (no f) z = L.differ d h (cc (C.vrest d h f, C.vrest (next d) (L.face d h) (not_c2 d (next d) refl e)))

  Mated : ℕ → Type 0
  Mated d = opp' d ≢ absent → Mate live' opp' vtx' d (opp' d)

  m04 : Mate live' opp' vtx' c0 c4
  m04 = record { over = C.l4; pair = C.o4; tail = cc (C.f3.n1, C.f0.p0, C.v5, C.v2); head = cc (C.f3.p1, C.f0.n0, C.v3, u1) }

  m37 : Mate live' opp' vtx' c3 c7
  m37 = record { over = C.l7; pair = C.o7; tail = cc (C.f6.n1, C.f3.p0, C.v8, C.v5); head = cc (C.f6.p1, C.f3.n0, C.v6, C.v4) }

  m61 : Mate live' opp' vtx' c6 c1
  m61 = record { over = C.grow c1 live1; pair = C.o1; tail = cc (C.f0.n1, C.f6.p0, C.v8, C.v2); head = cc (C.f0.p1, C.f6.n0, C.v7, u0) }

  -- an outer corner over c0 is paired with c5, one over c1 with c8
  out0 : (d : ℕ) → live d → opp d ≡ c0 → d ≢ c0 → d ≢ c1 → Mate live' opp' vtx' d c5
  out0 d h o n m =
      let t : opp d ≢ absent = λ z. L.present c0 C.alive (cc) in
      let a : vtx' (previous d) ≡ vtx (previous d) = C.vrest (previous d) (face_previous L d h) (not_c2' (previous d) (λ z. n (cc (next_previous d)))) in
      let b : vtx' (next d) ≡ vtx (next d) = C.vrest (next d) (L.face d h) (not_c2 d (next d) refl m) in
      record {
        over = C.l5;
        pair = C.o5 ∙ opp_of L d c0 h C.alive o;
        tail = cc (C.f3.n2, C.v3, L.tail d h t, C.f0.n0);
        head = cc (C.f3.p2, C.v4, L.head d h t, C.f0.p0);
      }

  out1 : (d : ℕ) → live d → opp d ≡ c1 → d ≢ c0 → d ≢ c1 → Mate live' opp' vtx' d c8
  out1 d h o n m =
      let t : opp d ≢ absent = λ z. L.present c1 live1 (cc) in
      let a : vtx' (previous d) ≡ vtx (previous d) = C.vrest (previous d) (face_previous L d h) (not_c2' (previous d) (λ z. n (cc (next_previous d)))) in
      let b : vtx' (next d) ≡ vtx (next d) = C.vrest (next d) (L.face d h) (not_c2 d (next d) refl m) in
      record {
        over = C.l8;
        pair = C.o8 ∙ opp_of L d c1 h live1 o;
        tail = cc (C.f6.n2, C.v6, L.tail d h t, C.f0.n1);
        head = cc (C.f6.p2, C.v7, L.head d h t, C.f0.p1);
      }

  mate_old : (d : ℕ) → live d → Mated d
  unfolding Mated
  mate_old d h t = go (spot opp c0 c1 c2 d)
    where
      go : Spot opp c0 c1 c2 d → Mate live' opp' vtx' d (opp' d)
      go (is0 e) = mate_at d c4 (cc C.o0) (rw e m04)
      go (is1 e) = mate_at d c6 (cc C.o1) (rw e (mate_sym C.l6 C.o6 m61))
      go (on0 o n m) = mate_at d c5 (C.over0 d h o) (out0 d h o n m)
      go (on1 o n m) = mate_at d c8 (C.over1 d h o) (out1 d h o n m)
      go (off n m o p) =
          let r : opp' d ≡ opp d = C.rest d h n m o p in
          let t' : opp d ≢ absent = rw r at t in
          let y : live (opp d) = L.over d h t' in
          let q : opp (opp d) ≡ d = L.pair d h t' in
          mate_at d (opp d) r (record {
            over = C.grow (opp d) y;
            pair = C.rest (opp d) y o p (λ z. n (sym q ∙ z)) (λ z. m (sym q ∙ z)) ∙ q;
            tail = cc (
              C.vrest (next (opp d)) (L.face (opp d) y) (not_c2 (opp d) (next (opp d)) refl p),
              L.tail d h t',
              C.vrest (previous d) (face_previous L d h) (not_c2' (previous d) (λ z. n (cc (next_previous d)))),
            );
            head = cc (
              C.vrest (previous (opp d)) (face_previous L (opp d) y) (not_c2' (previous (opp d)) (λ z. o (cc (next_previous (opp d))))),
              L.head d h t',
              C.vrest (next d) (L.face d h) (not_c2 d (next d) refl m),
            );
          })

  mate5 : Mated c5
  unfolding Mated
  mate5 t =
      let t' : opp c0 ≢ absent = rw C.o5 at t in
      let y : live (opp c0) = L.over c0 C.alive t' in
      let q : opp (opp c0) ≡ c0 = L.pair c0 C.alive t' in
      mate_at c5 (opp c0) C.o5 (mate_sym (C.grow (opp c0) y) (C.over0 (opp c0) y q)
      (out0 (opp c0) y q (opp_not_self L c0 C.alive t') (λ z. opp_not_next L c0 C.alive t' (cc C.f0.n0))))

  mate8 : Mated c8
  unfolding Mated
  mate8 t =
      let t' : opp c1 ≢ absent = rw C.o8 at t in
      let y : live (opp c1) = L.over c1 live1 t' in
      let q : opp (opp c1) ≡ c1 = L.pair c1 live1 t' in
      mate_at c8 (opp c1) C.o8 (mate_sym (C.grow (opp c1) y) (C.over1 (opp c1) y q)
      (out1 (opp c1) y q (λ z. opp_not_previous L c1 live1 t' (cc C.f0.p1)) (opp_not_self L c1 live1 t')))

  pub cut_linked : Linked live' opp' vtx'
  unfolding Mated
  cut_linked = linked
      (each (λ d. d ≢ absent) (λ d h. L.present d h) (omega (arith, C.small)) (omega (arith, C.small, C.e4)) (omega (arith, C.small, C.e5))
      (omega (arith, C.small, C.e6)) (omega (arith, C.small, C.e7)) (omega (arith, C.small, C.e8)))
      (each (λ d. live' (next d)) (λ d h. C.grow (next d) (L.face d h)) (rw C.f3.n0 C.l4) (rw C.f3.n1 C.l5) (rw C.f3.n2 C.l3)
      (rw C.f6.n0 C.l7) (rw C.f6.n1 C.l8) (rw C.f6.n2 C.l6))
      (each (λ d. vtx' d ≢ vtx' (next d)) differ_old
      (λ z. d12 (cc (C.f3.n0, C.v3, C.v4)))
      (λ z. C.fresh c2 live2 (cc (C.f3.n1, C.v4, C.v5)))
      (λ z. C.fresh c1 live1 (cc (C.f3.n2, C.v3, C.v5)))
      (λ z. d20 (cc (C.f6.n0, C.v6, C.v7)))
      (λ z. C.fresh c0 C.alive (cc (C.f6.n1, C.v7, C.v8)))
      (λ z. C.fresh c2 live2 (cc (C.f6.n2, C.v6, C.v8))))
      (each Mated mate_old
      (λ t. mate_at c3 c7 C.o3 m37) (λ t. mate_at c4 c0 C.o4 (mate_sym (C.grow c0 C.alive) C.o0 m04)) mate5
      (λ t. mate_at c6 c1 C.o6 m61) (λ t. mate_at c7 c3 C.o7 (mate_sym C.l3 C.o3 m37)) mate8)
