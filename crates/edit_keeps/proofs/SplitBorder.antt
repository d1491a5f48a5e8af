-- Splitting a border edge: R2 to R4 and the one fan to a vertex are kept. Assumes nothing.
use mathlib.Core.Path.{◌≡◌, refl, ap, sym, ◌∙◌, subst}
use mathlib.Core.Logic.{◌≢◌, ◌⊎◌, inl, inr}
use Prim.Native.Nat.{ℕ, ◌+◌, ◌≤◌, ◌<◌}
use native.Mathlib.Omega.{arith}
use native.Mathlib.Decide.{ℕ_discrete}
use Rattle.corner.specs.Corner.{next, previous}
use Rattle.corner.proofs.Turns.{next_previous, previous_next}
use Rattle.corner.specs.Corner.{absent}
use Rattle.table.specs.Rules.{Mate}
use Rattle.fan.proofs.Fan.{Left, Conn, stay, fore, conn_trans, conn_sym, conn_eq, Linked, OneFan, mate_sym, mate_at, linked, face_previous, opp_of}
use Rattle.edit_keeps.proofs.SplitFace.{Face3}
use Rattle.edit_keeps.proofs.Seats.{Seat, moved_fan}
use Rattle.fan.proofs.Redirect.{at, at_same, at_other}

-- what a border edge split reads and writes. Face c1 c2 c0; new: c3 c4 c5, vertex u
pub record Rim (live live' : ℕ → Type 0) (opp opp' vtx vtx' : ℕ → ℕ) (c1 c2 c0 c3 c4 c5 u : ℕ) : Type 0 where
  pub f : Face3 c1 c2 c0
  pub g : Face3 c3 c4 c5
  pub alive : live c1
  pub t1 : opp c1 ≡ absent
  pub old : (d : ℕ) → live d → d < c3
  pub e4 : c4 ≡ c3 + 1
  pub e5 : c5 ≡ c3 + 2
  pub small : c3 + 2 < absent
  pub fresh : (d : ℕ) → live d → vtx d ≢ u
  pub grow : (d : ℕ) → live d → live' d
  pub l3 : live' c3
  pub l4 : live' c4
  pub l5 : live' c5
  pub shrink : (d : ℕ) → live' d → live d ⊎ ((c3 ≤ d) × (d ≤ c3 + 2))
  pub n0 : opp' c0 ≡ c4
  pub n4 : opp' c4 ≡ c0
  pub n3 : opp' c3 ≡ absent
  pub n5 : opp' c5 ≡ opp c0
  pub over0 : (d : ℕ) → live d → opp d ≡ c0 → opp' d ≡ c5
  pub rest : (d : ℕ) → live d → d ≢ c0 → opp d ≢ c0 → opp' d ≡ opp d
  pub w2 : vtx' c2 ≡ vtx c2
  pub w3 : vtx' c3 ≡ vtx c1
  pub w4 : vtx' c4 ≡ u
  pub w5 : vtx' c5 ≡ vtx c2
  pub wu : (d : ℕ) → live d → d ≢ c2 → vtx d ≡ vtx c2 → vtx' d ≡ u
  pub wr : (d : ℕ) → live d → vtx d ≢ vtx c2 → vtx' d ≡ vtx d

module _ {live live' : ℕ → Type 0} {opp opp' vtx vtx' : ℕ → ℕ} {c1 c2 c0 c3 c4 c5 u : ℕ}
    (L : Linked live opp vtx) (C : Rim live live' opp opp' vtx vtx' c1 c2 c0 c3 c4 c5 u) where
  l2 : live c2
  l2 = subst live C.f.n0 (L.face c1 C.alive)

  l0 : live c0
  l0 = subst live C.f.n1 (L.face c2 l2)

  d12 : vtx c1 ≢ vtx c2
  d12 z = L.differ c1 C.alive (cc)

  d20 : vtx c2 ≢ vtx c0
  d20 z = L.differ c2 l2 (cc)

  d01 : vtx c0 ≢ vtx c1
  d01 z = L.differ c0 l0 (cc)

  u1 : vtx' c1 ≡ vtx c1
  u1 = C.wr c1 C.alive d12

  -- nobody faces the border edge
  not1 : (d : ℕ) → live d → opp d ≢ c1
  not1 d h e = L.present d h (sym (opp_of L d c1 h C.alive e) ∙ C.t1)

  next_not2 : (y : ℕ) → y ≢ c1 → next y ≢ c2
  next_not2 y h z = h (cc (previous_next y))

  previous_not2 : (y : ℕ) → y ≢ c0 → previous y ≢ c2
  previous_not2 y h z = h (cc (next_previous y))

  same : (d e : ℕ) → live d → live e → d ≢ c2 → e ≢ c2 → vtx d ≡ vtx e → vtx' d ≡ vtx' e
  same d e h k a b z = go (ℕ_discrete (vtx d) (vtx c2))
    where
      go : Dec (vtx d ≡ vtx c2) → vtx' d ≡ vtx' e
      go (yes y) = cc (C.wu d h a y, C.wu e k b (sym z ∙ y))
      go (no y) = cc (C.wr d h y, C.wr e k (λ x. y (z ∙ x)))

  Mated : ℕ → Type 0
  Mated d = opp' d ≢ absent → Mate live' opp' vtx' d (opp' d)

  m04 : Mate live' opp' vtx' c0 c4
  m04 = record { over = C.l4; pair = C.n4; tail = cc; head = cc (u1) }

  out0 : (d : ℕ) → live d → opp d ≡ c0 → Mate live' opp' vtx' d c5
  out0 d h o =
      let t : opp d ≢ absent = λ z. L.present c0 l0 (sym o ∙ z) in
      let b : opp c0 ≡ d = opp_of L d c0 h l0 o in
      let q : vtx (previous d) ≡ vtx c1 = cc (L.tail d h t) in
      let r : vtx (next d) ≡ vtx c2 = cc (L.head d h t) in
      let x : d ≢ c1 = λ z. t (cc) in
      record {
        over = C.l5;
        pair = C.n5 ∙ b;
        tail = cc (C.wr (previous d) (face_previous L d h) (λ z. d12 (sym q ∙ z)));
        head = cc (C.wu (next d) (L.face d h) (next_not2 d x) r);
      }

  mate_old : (d : ℕ) → live d → Mated d
  unfolding Mated
  mate_old d h t = go (ℕ_discrete d c0) (ℕ_discrete (opp d) c0)
    where
      go : Dec (d ≡ c0) → Dec (opp d ≡ c0) → Mate live' opp' vtx' d (opp' d)
      go (yes e) q = mate_at d c4 (cc) (rw e m04)
      go (no a) (yes o) = mate_at d c5 (C.over0 d h o) (out0 d h o)
      go (no a) (no c) =
          let r : opp' d ≡ opp d = C.rest d h a c in
          let t' : opp d ≢ absent = rw r at t in
          let y : live (opp d) = L.over d h t' in
          let q : opp (opp d) ≡ d = L.pair d h t' in
          let x : d ≢ c1 = λ z. t' (cc) in
          mate_at d (opp d) r (record {
            over = C.grow (opp d) y;
            pair = C.rest (opp d) y c (λ z. a (sym q ∙ z)) ∙ q;
            tail = same (next (opp d)) (previous d) (L.face (opp d) y) (face_previous L d h) (next_not2 (opp d) (not1 d h)) (previous_not2 d a) (L.tail d h t');
            head = same (previous (opp d)) (next d) (face_previous L (opp d) y) (L.face d h) (previous_not2 (opp d) c) (next_not2 d x) (L.head d h t');
          })

  mate5 : Mated c5
  unfolding Mated
  mate5 t =
      let t' : opp c0 ≢ absent = rw C.n5 at t in
      let y : live (opp c0) = L.over c0 l0 t' in
      let q : opp (opp c0) ≡ c0 = L.pair c0 l0 t' in
      mate_at c5 (opp c0) C.n5 (mate_sym (C.grow (opp c0) y) (C.over0 (opp c0) y q) (out0 (opp c0) y q))

  differs_old : (d : ℕ) → live d → vtx' d ≢ vtx' (next d)
  differs_old d h z = go (ℕ_discrete (vtx d) (vtx c2)) (ℕ_discrete (vtx (next d)) (vtx c2))
    where
      k : live (next d)
      k = L.face d h

      one : (a b : ℕ) → live a → live b → vtx a ≡ vtx c2 → vtx b ≢ vtx c2 → vtx' a ≡ vtx' b → ⊥
      one a b p q x y s = at' (ℕ_discrete a c2)
        where
          at' : Dec (a ≡ c2) → ⊥
          at' (yes e) = y (cc (C.wr b q y))
          at' (no n) = C.fresh b q (cc (C.wr b q y, C.wu a p n x))

      go : Dec (vtx d ≡ vtx c2) → Dec (vtx (next d) ≡ vtx c2) → ⊥
      go (yes a) (yes b) = L.differ d h (a ∙ sym b)
      go (yes a) (no b) = one d (next d) h k a b z
      go (no a) (yes b) = one (next d) d k h b a (sym z)
      go (no a) (no b) = L.differ d h (cc (C.wr d h a, C.wr (next d) k b))

  each : (Q : ℕ → Type 0) → ((d : ℕ) → live d → Q d) → Q c3 → Q c4 → Q c5 → (d : ℕ) → live' d → Q d
  each Q o q3 q4 q5 d h = go (C.shrink d h)
    where
      at' : c3 ≤ d → d ≤ c3 + 2 → Dec (d ≡ c3) → Dec (d ≡ c4) → Q d
      at' a b (yes e) q = subst Q (sym e) q3
      at' a b (no n) (yes e) = subst Q (sym e) q4
      at' a b (no n) (no m) = subst Q (omega (arith, C.e4, C.e5)) q5

      go : live d ⊎ ((c3 ≤ d) × (d ≤ c3 + 2)) → Q d
      go (inl m) = o d m
      go (inr m) = at' m.0 m.1 (ℕ_discrete d c3) (ℕ_discrete d c4)

  pub rim_linked : Linked live' opp' vtx'
  unfolding Mated
  rim_linked = linked
      (each (λ d. d ≢ absent) (λ d m. L.present d m) (omega (arith, C.small)) (omega (arith, C.small, C.e4)) (omega (arith, C.small, C.e5)))
      (each (λ d. live' (next d)) (λ d m. C.grow (next d) (L.face d m)) (rw C.g.n0 C.l4) (rw C.g.n1 C.l5) (rw C.g.n2 C.l3))
      (each (λ d. vtx' d ≢ vtx' (next d)) differs_old
      (λ z. C.fresh c1 C.alive (cc)) (λ z. C.fresh c2 l2 (cc)) (λ z. d12 (cc)))
      (each Mated mate_old (λ t. absurd (t C.n3)) (λ t. mate_at c4 c0 C.n4 (mate_sym (C.grow c0 l0) C.n0 m04)) mate5)

  -- R5
  φ : ℕ → ℕ
  φ = at c2 c4 (λ d. d)

  φ2 : φ c2 ≡ c4
  unfolding φ
  φ2 = at_same _ _ _

  φ-off : (d : ℕ) → d ≢ c2 → φ d ≡ d
  unfolding φ
  φ-off d p = simp at_other

  hop : (d x y e : ℕ) → live' d → next d ≡ x → opp' x ≡ y → live' y → next y ≡ e → Conn (Left live' opp') d e
  hop d x y e h a b t l = fore {d = d} {e = e} stay (record { from = h; there = λ z. rim_linked.present y t (cc); lands = cc })

  h31 : Conn (Left live' opp') c3 c1
  h31 = hop c3 c4 c0 c1 C.l3 C.g.n0 C.n4 (C.grow c0 l0) C.f.n2

  at1 : φ c1 ≡ c1
  at1 = φ-off c1 (λ z. d12 (cc))

  step : (d e : ℕ) → Left live opp d e → Conn (Left live' opp') (φ d) (φ e)
  step d e s = go (ℕ_discrete (next d) c0) (ℕ_discrete (opp (next d)) c0)
    where
      t : opp (next d) ≢ absent
      t = s.there

      l : next (opp (next d)) ≡ e
      l = s.lands

      x : live (next d)
      x = L.face d s.from

      not2 : next d ≢ c0 → d ≢ c2
      not2 n z = n (cc)

      r : φ e ≡ e
      r = φ-off e (rw (← l) (next_not2 (opp (next d)) (not1 (next d) x)))

      go : Dec (next d ≡ c0) → Dec (opp (next d) ≡ c0) → Conn (Left live' opp') (φ d) (φ e)
      go (yes h) y =
          let dd : d ≡ c2 = cc (previous_next d) in
          let t' : opp c0 ≢ absent = rw h at t in
          rw (r, dd, φ2) (hop c4 c5 (opp c0) e C.l4 C.g.n1 C.n5 (C.grow (opp c0) (L.over c0 l0 t')) (rw h at l))
      go (no a) (yes o) =
          let ee : e ≡ c1 = cc l in
          rw (φ-off d (not2 a), ee, at1) (conn_trans (hop d (next d) c5 c3 (C.grow d s.from) refl (C.over0 (next d) x o) C.l5 C.g.n2) h31)
      go (no a) (no o) =
          rw (φ-off d (not2 a), r) (hop d (next d) (opp (next d)) e (C.grow d s.from) refl (C.rest (next d) x a o) (C.grow (opp (next d)) (L.over (next d) x t)) l)

  abbrev Place : ℕ → Type 0
  Place = Seat live live' opp' vtx vtx' c2 u φ

  seat : (d : ℕ) → live' d → Place d
  seat = each Place old
      (inr (record { o = c1; lives = C.alive; new = λ z. absurd (d12 z); kept = λ z. C.w3; near = rw at1 h31 }))
      (inr (record { o = c2; lives = l2; new = λ z. C.w4; kept = λ n. absurd (n refl); near = rw φ2 stay }))
      (inl (C.w5, conn_sym (hop c2 c0 c4 c5 (C.grow c2 l2) C.f.n1 C.n0 C.l4 C.g.n1)))
    where
      old : (d : ℕ) → live d → Place d
      old d h = go (ℕ_discrete d c2)
        where
          go : Dec (d ≡ c2) → Place d
          go (yes e) = inl (ap vtx' e ∙ C.w2, conn_eq e)
          go (no n) = inr (record { o = d; lives = h; new = C.wu d h n; kept = C.wr d h; near = conn_eq (sym (φ-off d n)) })

  pub rim_fan : OneFan live opp vtx → OneFan live' opp' vtx'
  rim_fan = moved_fan live live' opp' vtx vtx' c2 u φ opp l2 C.fresh step seat
