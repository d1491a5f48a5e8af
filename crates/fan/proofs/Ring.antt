-- The ring walk of a live corner of a well-formed table. Assumes nothing.
use mathlib.Core.Path.{◌≡◌, refl, ap, sym, ◌∙◌}
use mathlib.Core.Logic.{◌≢◌, ◌⊎◌, inl, inr}
use Prim.Native.Nat.{ℕ, zero, suc, ◌≤◌, ◌<◌}
use native.Mathlib.Omega.{arith}
use native.Mathlib.Decide.{ℕ_discrete, dec_lt}
use Rattle.corner.specs.Corner.{absent, next, previous}
use Rattle.fan.proofs.Fan.{swing_l, swing_r, Left, Conn, stay, fore, back, Linked, left_live, right_live, left_back, right_back}
use Rattle.fan.proofs.Walk.{Moves, it, Stop, border, closes, Walk}

abbrev pub stuck_l : (ℕ → ℕ) → ℕ → Type 0
stuck_l opp d = opp (next d) ≡ absent

abbrev pub stuck_r : (ℕ → ℕ) → ℕ → Type 0
stuck_r opp d = opp (previous d) ≡ absent

-- c is visited by the left walk, or by the right one
pub record On (f : ℕ → ℕ) (c last d : ℕ) : Type 0 where
  pub place : ℕ
  pub within : place ≤ last
  pub there : it f c place ≡ d

module _ {live : ℕ → Type 0} {opp vtx : ℕ → ℕ} (L : Linked live opp vtx) (n : ℕ) (below : (d : ℕ) → live d → d < n) where
  abbrev pub lefts : Moves live (stuck_l opp) (swing_l opp) n
  lefts = record {
    decides = λ d. ℕ_discrete (opp (next d)) absent;
    below = below;
    keeps = left_live L;
    injects = λ d e p q s t h. sym (left_back L d (swing_l opp d) p s refl).1 ∙ (left_back L e (swing_l opp d) q t (sym h)).1;
  }

  abbrev pub rights : Moves live (stuck_r opp) (swing_r opp) n
  rights = record {
    decides = λ d. ℕ_discrete (opp (previous d)) absent;
    below = below;
    keeps = right_live L;
    injects = λ d e p q s t h. sym (right_back L d (swing_r opp d) p s refl).1 ∙ (right_back L e (swing_r opp d) q t (sym h)).1;
  }

  -- a left step backwards is unique
  left_only : (d e x : ℕ) → live d → ¬ stuck_l opp d → swing_l opp d ≡ x → Left live opp e x → d ≡ e
  left_only d e x p t h s = lefts.injects d e p s.from t s.there (h ∙ sym s.lands)

  module _ (c : ℕ) (start : live c) (w : Walk live (stuck_l opp) (swing_l opp) n c) where
    -- one step left inside the walk
    on_left : (i : ℕ) (x e : ℕ) → i < w.last → it (swing_l opp) c i ≡ x → swing_l opp x ≡ e → On (swing_l opp) c w.last e
    on_left i x e h at s = record { place = suc i; within = h; there = cc }

    module _ (moves : ¬ stuck_l opp (it (swing_l opp) c w.last)) (closed : swing_l opp (it (swing_l opp) c w.last) ≡ c) where
      -- the closed ring holds the whole fan
      pub closed_cover : (d : ℕ) → Conn (Left live opp) c d → On (swing_l opp) c w.last d
      closed_cover d stay = record { place = 0; within = omega arith; there = refl }
      closed_cover d (fore {d = x} q s) = go (closed_cover x q)
        where
          go : On (swing_l opp) c w.last x → On (swing_l opp) c w.last d
          go o = pick (dec_lt o.place w.last)
            where
              pick : Dec (o.place < w.last) → On (swing_l opp) c w.last d
              pick (yes h) = on_left o.place x d h o.there s.lands
              pick (no h) =
                  let e : w.last ≡ o.place = omega (arith, o.within) in
                  record { place = 0; within = omega arith; there = sym (rw e at closed) ∙ ap (swing_l opp) o.there ∙ s.lands }
      closed_cover d (back {d = x} q s) = go (closed_cover x q)
        where
          at : (i : ℕ) → i ≤ w.last → it (swing_l opp) c i ≡ x → On (swing_l opp) c w.last d
          at zero h e = record { place = w.last; within = omega arith; there = left_only (it (swing_l opp) c w.last) d x (w.lives w.last (omega arith)) moves (closed ∙ e) s }
          at (suc i) h e = record { place = i; within = omega arith; there = left_only (it (swing_l opp) c i) d x (w.lives i (omega arith)) (w.moves i h) e s }

          go : On (swing_l opp) c w.last x → On (swing_l opp) c w.last d
          go o = at o.place o.within o.there

    module _ (ends : stuck_l opp (it (swing_l opp) c w.last)) (v : Walk live (stuck_r opp) (swing_r opp) n c) where
      -- the open ring, left part and right part, holds the whole fan
      abbrev pub Both : ℕ → Type 0
      Both d = On (swing_l opp) c w.last d ⊎ On (swing_r opp) c v.last d

      fore_left : (x d : ℕ) → On (swing_l opp) c w.last x → Left live opp x d → Both d
      fore_left x d o s = pick (dec_lt o.place w.last)
        where
          pick : Dec (o.place < w.last) → Both d
          pick (yes h) = inl (on_left o.place x d h o.there s.lands)
          pick (no h) =
              let e : w.last ≡ o.place = omega (arith, o.within) in
              absurd (s.there (cc (ends, e, o.there)))

      fore_right : (i x d : ℕ) → i ≤ v.last → it (swing_r opp) c i ≡ x → Left live opp x d → Both d
      fore_right zero x d h e s = fore_left x d (record { place = 0; within = omega arith; there = e }) s
      fore_right (suc i) x d h e s =
          let b : (opp (next x) ≢ absent) × (next (opp (next x)) ≡ it (swing_r opp) c i) = right_back L (it (swing_r opp) c i) x (v.lives i (omega arith)) (v.moves i h) e in
          inr (record { place = i; within = omega arith; there = sym b.1 ∙ s.lands })

      back_right : (x d : ℕ) → On (swing_r opp) c v.last x → Left live opp d x → Both d
      back_right x d o s = pick (dec_lt o.place v.last)
        where
          b : (opp (previous x) ≢ absent) × (previous (opp (previous x)) ≡ d)
          b = left_back L d x s.from s.there s.lands

          stop : Stop (stuck_r opp) (swing_r opp) c (it (swing_r opp) c v.last) → v.last ≡ o.place → Both d
          stop (border t) e = absurd (b.0 (cc o.there))
          stop (closes t u) e = inr (record { place = 0; within = omega arith; there = sym u ∙ cc (o.there, b.1) })

          pick : Dec (o.place < v.last) → Both d
          pick (yes h) = inr (record { place = suc o.place; within = h; there = cc (o.there, b.1) })
          pick (no h) = stop v.ends (omega (arith, o.within))

      back_left : (i x d : ℕ) → i ≤ w.last → it (swing_l opp) c i ≡ x → Left live opp d x → Both d
      back_left zero x d h e s = back_right x d (record { place = 0; within = omega arith; there = e }) s
      back_left (suc i) x d h e s = inl (record { place = i; within = omega arith; there = left_only (it (swing_l opp) c i) d x (w.lives i (omega arith)) (w.moves i h) e s })

      pub open_cover : (d : ℕ) → Conn (Left live opp) c d → Both d
      open_cover d stay = inl (record { place = 0; within = omega arith; there = refl })
      open_cover d (fore {d = x} q s) = go (open_cover x q)
        where
          go : Both x → Both d
          go (inl o) = fore_left x d o s
          go (inr o) = fore_right o.place x d o.within o.there s
      open_cover d (back {d = x} q s) = go (open_cover x q)
        where
          go : Both x → Both d
          go (inl o) = back_left o.place x d o.within o.there s
          go (inr o) = back_right x d o s

      open_up : (j i : ℕ) → suc j ≤ v.last → i ≤ w.last → it (swing_l opp) c i ≡ it (swing_r opp) c (suc j) → (i < w.last) × (it (swing_l opp) c (suc i) ≡ it (swing_r opp) c j)
      open_up j i h k e = pick (dec_lt i w.last)
        where
          b : (opp (next (it (swing_l opp) c i)) ≢ absent) × (next (opp (next (it (swing_l opp) c i))) ≡ it (swing_r opp) c j)
          b = right_back L (it (swing_r opp) c j) (it (swing_l opp) c i) (v.lives j (omega arith)) (v.moves j h) (sym e)

          pick : Dec (i < w.last) → (i < w.last) × (it (swing_l opp) c (suc i) ≡ it (swing_r opp) c j)
          pick (no g) = let z : w.last ≡ i = omega arith in absurd (b.0 (rw z at ends))
          pick (yes g) = (g, b.1)

      -- the two parts share the start alone
      pub open_apart : (j i : ℕ) → suc j ≤ v.last → i ≤ w.last → it (swing_l opp) c i ≢ it (swing_r opp) c (suc j)
      open_apart zero i h k e = let u = open_up zero i h k e in w.opens i u.0 u.1
      open_apart (suc j) i h k e = let u = open_up (suc j) i h k e in open_apart j (suc i) (omega arith) u.0 u.1

      -- and the right part ends at a border too
      pub open_right : stuck_r opp (it (swing_r opp) c v.last)
      open_right = go v.ends
        where
          go : Stop (stuck_r opp) (swing_r opp) c (it (swing_r opp) c v.last) → stuck_r opp (it (swing_r opp) c v.last)
          go (border t) = t
          go (closes t u) = absurd (pick (dec_lt 0 w.last))
            where
              b : (opp (next c) ≢ absent) × (next (opp (next c)) ≡ it (swing_r opp) c v.last)
              b = right_back L (it (swing_r opp) c v.last) c (v.lives v.last (omega arith)) t u

              at : (l : ℕ) → l ≤ v.last → 0 < w.last → next (opp (next c)) ≡ it (swing_r opp) c l → ⊥
              at zero m g e = w.opens 0 g e
              at (suc l) m g e = open_apart l 1 m g e

              pick : Dec (0 < w.last) → ⊥
              pick (yes g) = at v.last (omega arith) g b.1
              pick (no g) = let z : w.last ≡ 0 = omega arith in b.0 (rw z at ends)
