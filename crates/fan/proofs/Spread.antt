-- The build's duplicates: giving a whole fan a new vertex keeps R2 to R4, and settles that fan. Assumes nothing.
use mathlib.Core.Path.{◌≡◌, sym, ◌∙◌}
use mathlib.Core.Logic.{◌≢◌}
use Prim.Native.Nat.{ℕ}
use Rattle.corner.specs.Corner.{absent, next, previous}
use Rattle.corner.proofs.Turns.{next_previous, previous_next}
use Rattle.table.specs.Rules.{Mate}
use Rattle.fan.proofs.Fan.{Left, Conn, stay, fore, conn_trans, conn_sym, Linked, linked, face_previous, right_step, conn_vertex}

-- every live corner of v lies in the fan of c
unfoldable pub Settled : (live : ℕ → Type 0) (opp vtx : ℕ → ℕ) (v c : ℕ) → Type 0
Settled live opp vtx v c = (d : ℕ) → live d → vtx d ≡ v → Conn (Left live opp) c d

module _ {live : ℕ → Type 0} {opp vtx vtx' : ℕ → ℕ} (L : Linked live opp vtx) (c u : ℕ) (start : live c)
    (in? : (d : ℕ) → Dec (Conn (Left live opp) c d)) (fresh : (d : ℕ) → live d → vtx d ≢ u)
    (yes' : (d : ℕ) → Conn (Left live opp) c d → vtx' d ≡ u) (no' : (d : ℕ) → live d → ¬ Conn (Left live opp) c d → vtx' d ≡ vtx d) where
  -- two corners of one fan stay together
  together : (d e : ℕ) → live d → live e → vtx d ≡ vtx e → Conn (Left live opp) d e → vtx' d ≡ vtx' e
  together d e h k z p = go (in? d)
    where
      go : Dec (Conn (Left live opp) c d) → vtx' d ≡ vtx' e
      go (yes q) = yes' d q ∙ sym (yes' e (conn_trans q p))
      go (no q) = no' d h q ∙ z ∙ sym (no' e k (λ r. q (conn_trans r (conn_sym p))))

  pub spread_linked : Linked live opp vtx'
  spread_linked = linked L.present L.face differs mates
    where
      differs : (d : ℕ) → live d → vtx' d ≢ vtx' (next d)
      differs d h z = go (in? d) (in? (next d))
        where
          k : live (next d)
          k = L.face d h

          go : Dec (Conn (Left live opp) c d) → Dec (Conn (Left live opp) c (next d)) → ⊥
          go (yes p) (yes q) = L.differ d h (conn_vertex L p ∙ sym (conn_vertex L q))
          go (yes p) (no q) = fresh (next d) k (sym (no' (next d) k q) ∙ sym z ∙ yes' d p)
          go (no p) (yes q) = fresh d h (sym (no' d h p) ∙ z ∙ yes' (next d) q)
          go (no p) (no q) = L.differ d h (sym (no' d h p) ∙ z ∙ no' (next d) k q)

      mates : (d : ℕ) → live d → opp d ≢ absent → Mate live opp vtx' d (opp d)
      mates d h t =
          let y : live (opp d) = L.over d h t in
          let p : live (previous d) = face_previous L d h in
          let q : live (next d) = L.face d h in
          let a : Conn (Left live opp) (previous d) (next (opp d)) = fore {d = previous d} {e = next (opp d)} stay (record { from = p; there = λ z. t (cc (next_previous d)); lands = cc (next_previous d) }) in
          let b : Left live opp (previous (opp (previous (next d)))) (next d) = right_step L (next d) q (λ z. t (cc (previous_next d))) in
          let b' : Conn (Left live opp) (previous (opp d)) (next d) = fore stay (rw (previous_next d) at b) in
          record {
            over = y;
            pair = L.pair d h t;
            tail = together (next (opp d)) (previous d) (L.face (opp d) y) p (L.tail d h t) (conn_sym a);
            head = together (previous (opp d)) (next d) (face_previous L (opp d) y) q (L.head d h t) b';
          }

  -- the new vertex is settled
  pub spread_new : Settled live opp vtx' u c
  unfolding Settled
  spread_new d h e = go (in? d)
    where
      go : Dec (Conn (Left live opp) c d) → Conn (Left live opp) c d
      go (yes p) = p
      go (no p) = absurd (fresh d h (sym (no' d h p) ∙ e))

  -- and so is any vertex that was
  pub spread_old : (v b : ℕ) → Settled live opp vtx v b → v ≢ u → Settled live opp vtx' v b
  unfolding Settled
  spread_old v b s n d h e = go (in? d)
    where
      go : Dec (Conn (Left live opp) c d) → Conn (Left live opp) b d
      go (yes p) = absurd (n (sym e ∙ yes' d p))
      go (no p) = s d h (sym (no' d h p) ∙ e)
