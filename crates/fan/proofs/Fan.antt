-- Fans: the swings about a vertex as a relation, its equivalence closure, and the rules R2 to R4 as a record. Assumes nothing.
use mathlib.Core.Path.{◌≡◌, refl, sym, subst}
use mathlib.Core.Logic.{◌≢◌}
use Prim.Native.Nat.{ℕ}
use Rattle.corner.specs.Corner.{absent, next, previous}
use Rattle.table.specs.Rules.{Fan, here, left, right, Mate}
use Rattle.corner.proofs.Turns.{next_next, next_previous, previous_next}

-- swing left: next, opposite, next; swing right: previous, opposite, previous
abbrev pub swing_l : (ℕ → ℕ) → ℕ → ℕ
swing_l opp d = next (opp (next d))

abbrev pub swing_r : (ℕ → ℕ) → ℕ → ℕ
swing_r opp d = previous (opp (previous d))

-- a swing left from a live corner. (A deleted corner keeps its opposite, so without `from` it could step into a live fan.)
pub record Left (live : ℕ → Type 0) (opp : ℕ → ℕ) (d e : ℕ) : Type 0 where
  pub from : live d
  pub there : opp (next d) ≢ absent
  pub lands : next (opp (next d)) ≡ e

-- the least equivalence that holds a relation
pub data Conn (R : ℕ → ℕ → Type 0) (c : ℕ) : ℕ → Type 0 where
  stay : Conn R c c
  fore : {d e : ℕ} → Conn R c d → R d e → Conn R c e
  back : {d e : ℕ} → Conn R c d → R e d → Conn R c e

pub conn_trans : {R : ℕ → ℕ → Type 0} {c d e : ℕ} → Conn R c d → Conn R d e → Conn R c e
conn_trans p stay = p
conn_trans p (fore q s) = fore (conn_trans p q) s
conn_trans p (back q s) = back (conn_trans p q) s

pub conn_sym : {R : ℕ → ℕ → Type 0} {c d : ℕ} → Conn R c d → Conn R d c
conn_sym stay = stay
conn_sym (fore q s) = conn_trans (back stay s) (conn_sym q)
conn_sym (back q s) = conn_trans (fore stay s) (conn_sym q)

pub conn_eq : {R : ℕ → ℕ → Type 0} {c d : ℕ} → c ≡ d → Conn R c d
conn_eq {R} {c} e = subst (λ (x : ℕ). Conn R c x) e stay

-- the simulation: each old step is a new path, so an old path is a new path
pub simulate : {R S : ℕ → ℕ → Type 0} (φ : ℕ → ℕ) → ((d e : ℕ) → R d e → Conn S (φ d) (φ e)) → {c d : ℕ} → Conn R c d → Conn S (φ c) (φ d)
simulate φ step stay = stay
simulate φ step (fore {d} {e} q s) = conn_trans (simulate φ step q) (step d e s)
simulate φ step (back {d} {e} q s) = conn_trans (simulate φ step q) (conn_sym (step e d s))

-- R2 to R4, for a table whose live corners are `live`
pub record Linked (live : ℕ → Type 0) (opp vtx : ℕ → ℕ) : Type 0 where
  pub present : (c : ℕ) → live c → c ≢ absent
  pub face : (c : ℕ) → live c → live (next c)
  pub differ : (c : ℕ) → live c → vtx c ≢ vtx (next c)
  pub over : (c : ℕ) → live c → opp c ≢ absent → live (opp c)
  pub pair : (c : ℕ) → live c → opp c ≢ absent → opp (opp c) ≡ c
  pub tail : (c : ℕ) → live c → opp c ≢ absent → vtx (next (opp c)) ≡ vtx (previous c)
  pub head : (c : ℕ) → live c → opp c ≢ absent → vtx (previous (opp c)) ≡ vtx (next c)

-- R5: the live corners of a vertex lie in one fan
unfoldable pub OneFan : (live : ℕ → Type 0) (opp vtx : ℕ → ℕ) → Type 0
OneFan live opp vtx = (c d : ℕ) → live c → live d → vtx c ≡ vtx d → Conn (Left live opp) c d

module _ {live : ℕ → Type 0} {opp vtx : ℕ → ℕ} (L : Linked live opp vtx) where
  pub face_previous : (c : ℕ) → live c → live (previous c)
  face_previous c h = rw (← (next_next c)) (L.face (next c) (L.face c h))

  -- the swings keep live corners and the vertex
  pub left_live : (d : ℕ) → live d → opp (next d) ≢ absent → live (next (opp (next d)))
  left_live d h t = L.face (opp (next d)) (L.over (next d) (L.face d h) t)

  pub right_live : (d : ℕ) → live d → opp (previous d) ≢ absent → live (previous (opp (previous d)))
  right_live d h t = face_previous (opp (previous d)) (L.over (previous d) (face_previous d h) t)

  pub left_vertex : (d : ℕ) → live d → opp (next d) ≢ absent → vtx (next (opp (next d))) ≡ vtx d
  left_vertex d h t = cc (L.tail (next d) (L.face d h) t, previous_next d)

  pub right_vertex : (d : ℕ) → live d → opp (previous d) ≢ absent → vtx (previous (opp (previous d))) ≡ vtx d
  right_vertex d h t = cc (L.head (previous d) (face_previous d h) t, next_previous d)

  -- the two swings are inverse
  pub left_back : (d e : ℕ) → live d → opp (next d) ≢ absent → next (opp (next d)) ≡ e → (opp (previous e) ≢ absent) × (previous (opp (previous e)) ≡ d)
  left_back d e h t l =
      let n : live (next d) = L.face d h in
      let pr : opp (opp (next d)) ≡ next d = L.pair (next d) n t in
      let at : previous e ≡ opp (next d) = cc (previous_next (opp (next d))) in
      let o : opp (previous e) ≡ next d = cc in
      (λ z. L.present (next d) n (cc), cc (previous_next d))

  pub right_back : (d e : ℕ) → live d → opp (previous d) ≢ absent → previous (opp (previous d)) ≡ e → (opp (next e) ≢ absent) × (next (opp (next e)) ≡ d)
  right_back d e h t l =
      let n : live (previous d) = face_previous d h in
      let pr : opp (opp (previous d)) ≡ previous d = L.pair (previous d) n t in
      let at : next e ≡ opp (previous d) = cc (next_previous (opp (previous d))) in
      let o : opp (next e) ≡ previous d = cc in
      (λ z. L.present (previous d) n (cc), cc (next_previous d))

  pub left_step : (d : ℕ) → live d → opp (next d) ≢ absent → Left live opp d (next (opp (next d)))
  left_step d h t = record { from = h; there = t; lands = refl }

  -- a swing right is a step back
  pub right_step : (d : ℕ) → live d → opp (previous d) ≢ absent → Left live opp (previous (opp (previous d))) d
  right_step d h t =
      let b : (opp (next (previous (opp (previous d)))) ≢ absent) × (next (opp (next (previous (opp (previous d))))) ≡ d) = right_back d (previous (opp (previous d))) h t refl in
      record { from = right_live d h t; there = b.0; lands = b.1 }

  -- what a path keeps
  pub conn_live : {c d : ℕ} → live c → Conn (Left live opp) c d → live d
  conn_live h stay = h
  conn_live h (fore {d} q s) = subst live s.lands (left_live d s.from s.there)
  conn_live h (back q s) = s.from

  pub conn_vertex : {c d : ℕ} → Conn (Left live opp) c d → vtx d ≡ vtx c
  conn_vertex stay = refl
  conn_vertex (fore {d} q s) = cc (conn_vertex q, left_vertex d s.from s.there, s.lands)
  conn_vertex (back {d} {e} q s) = cc (conn_vertex q, left_vertex e s.from s.there, s.lands)

  -- the document's fan of a live corner is the connected part
  pub fan_conn : {c d : ℕ} → live c → Fan opp c d → Conn (Left live opp) c d
  fan_conn h here = stay
  fan_conn h (left {d} {e} q t l) =
      fore (fan_conn h q) (record { from = conn_live h (fan_conn h q); there = t; lands = l })
  fan_conn h (right {d} {e} q t l) =
      back (fan_conn h q) (subst (λ (x : ℕ). Left live opp x d) l (right_step d (conn_live h (fan_conn h q)) t))

  pub conn_fan : {c d : ℕ} → Conn (Left live opp) c d → Fan opp c d
  conn_fan stay = here
  conn_fan (fore q s) = left (conn_fan q) s.there s.lands
  conn_fan (back {d} {e} q s) = let b : (opp (previous d) ≢ absent) × (previous (opp (previous d)) ≡ e) = left_back e d s.from s.there s.lands in right (conn_fan q) b.0 b.1

  -- a corner is not paired inside its own face
  pub opp_not_self : (c : ℕ) → live c → opp c ≢ absent → opp c ≢ c
  opp_not_self c h t e = L.differ (next c) (L.face c h) (cc (L.tail c h t, next_next c))

  pub opp_not_next : (c : ℕ) → live c → opp c ≢ absent → opp c ≢ next c
  opp_not_next c h t e = L.differ c h (cc (L.head c h t, previous_next c))

  pub opp_not_previous : (c : ℕ) → live c → opp c ≢ absent → opp c ≢ previous c
  opp_not_previous c h t e = L.differ (previous c) (face_previous c h) (cc (L.tail c h t))

  -- who names a live corner as its opposite is that corner's opposite
  pub opp_of : (c d : ℕ) → live c → live d → opp c ≡ d → opp d ≡ c
  opp_of c d h k e = cc (L.pair c h (λ z. L.present d k (cc)))

-- the same seen from e
pub mate_sym : {live : ℕ → Type 0} {opp vtx : ℕ → ℕ} {c e : ℕ} → live c → opp c ≡ e → Mate live opp vtx c e → Mate live opp vtx e c
mate_sym h o m = record { over = h; pair = o; tail = sym m.head; head = sym m.tail }

pub mate_at : {live : ℕ → Type 0} {opp vtx : ℕ → ℕ} (c e : ℕ) → opp c ≡ e → Mate live opp vtx c e → Mate live opp vtx c (opp c)
mate_at {live} {opp} {vtx} c e o m = subst (λ (x : ℕ). Mate live opp vtx c x) (sym o) m

pub linked : {live : ℕ → Type 0} {opp vtx : ℕ → ℕ} → ((c : ℕ) → live c → c ≢ absent) → ((c : ℕ) → live c → live (next c))
    → ((c : ℕ) → live c → vtx c ≢ vtx (next c)) → ((c : ℕ) → live c → opp c ≢ absent → Mate live opp vtx c (opp c)) → Linked live opp vtx
linked p f d m = record {
  present = p;
  face = f;
  differ = d;
  over = λ c h t. (m c h t).over;
  pair = λ c h t. (m c h t).pair;
  tail = λ c h t. (m c h t).tail;
  head = λ c h t. (m c h t).head;
}
