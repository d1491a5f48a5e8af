-- R5's two walks: they hit only in the fan, and where the vertex's corner lies in the fan they hit. Assumes nothing.
use Prim.Native.Nat.{ℕ, zero, suc, ◌≤◌, ◌<◌}
use mathlib.Core.Path.{◌≡◌, refl, sym, ap, ◌∙◌}
use mathlib.Core.Logic.{◌≢◌, ◌⊎◌, inl, inr}
use mathlib.Core.List.{List}
use mathlib.Core.Bool.{Bool, true, false, cond, false≢true}
use native.Mathlib.Omega.{arith}
use borrow.Author.Tests.{ltb-true, eqb-true, eqb-false, eq-eqb, ne_eqb}
use lib.ListN.{length, get_or-eq_default}
use lib.Dec.{ltb, eqb}
use Rattle.std.proofs.lemmas.Bool.{or_cases, or_left}
use Rattle.corner.specs.Corner.{absent, turn}
use Rattle.corner.proofs.Turns.{next_first, previous_first}
use Rattle.table.specs.Slots.{opposite_at}
use Rattle.table.specs.Rules.{Fan, here, left, right}
use Rattle.fan.proofs.Fan.{swing_l, swing_r, Left, Conn, conn_sym, Linked, fan_conn}
use Rattle.fan.proofs.Walk.{it, Stop, border, closes, Walk, walk}
use Rattle.fan.proofs.Ring.{lefts, rights, On, closed_cover, open_cover, stuck_l, stuck_r}
use Rattle.checker_rules.specs.Near.{beside, hits, near}

module _ (co : List ℕ) (s c : ℕ) where
  abbrev opp : ℕ → ℕ
  opp d = opposite_at co d

  abbrev around : Bool → ℕ → ℕ
  around way d = turn way (opp (turn way d))

  -- what was hit: a corner of the fan, and it is s or comes before c
  pub record Hit : Type 0 where
    pub at : ℕ
    pub fan : Fan opp c at
    pub which : (at ≡ s) ⊎ (at < c)

  module _ (room : length co ≤ absent) (there : s ≢ absent) (small : c < absent) where
    -- from the absent corner a swing reads past the room
    past : (way : Bool) → opp (turn way absent) ≡ absent
    past true = get_or-eq_default co absent (omega (arith, next_first absent refl))
    past false = get_or-eq_default co absent (omega (arith, previous_first absent refl))

    abbrev Cursor : ℕ → Type 0
    Cursor x = (x ≡ absent) ⊎ Fan opp c x

    on_fan : (way : Bool) (x : ℕ) → opp (turn way x) ≢ absent → Fan opp c x → Fan opp c (around way x)
    on_fan true x n f = left f n refl
    on_fan false x n f = right f n refl

    swing_cursor : (way : Bool) (x : ℕ) → Cursor x → Cursor (beside way co x)
    unfolding beside
    swing_cursor way x k = go k (eqb (opp (turn way x)) absent) refl
      where
        go : Cursor x → (b : Bool) → eqb (opp (turn way x)) absent ≡ b → Cursor (cond b absent (around way x))
        go k true q = inl refl
        go (inl e) false q = absurd (eqb-false _ _ q (ap (λ (y : ℕ). opp (turn way y)) e ∙ past way))
        go (inr f) false q = inr (on_fan way x (eqb-false _ _ q) f)

    hit_at : (x : ℕ) → Cursor x → hits s c x ≡ true → Hit
    hit_at x k e = go k (or_cases (eqb x s) (ltb x c) e)
      where
        go : Cursor x → (eqb x s ≡ true) ⊎ (ltb x c ≡ true) → Hit
        go (inl z) (inl w) = absurd (there (sym (eqb-true _ _ w) ∙ z))
        go (inl z) (inr w) = absurd (omega (arith, ltb-true x c w))
        go (inr f) (inl w) = record { at = x; fan = f; which = inl (eqb-true _ _ w) }
        go (inr f) (inr w) = record { at = x; fan = f; which = inr (ltb-true _ _ w) }

    hit_from : (n a b : ℕ) → Cursor a → Cursor b → near co s c n a b ≡ true → Hit
    unfolding near
    hit_from zero a b k j e = absurd (false≢true e)
    hit_from (suc n) a b k j e =
        go
        (λ f. hit_from n (beside true co a) (beside false co b) (swing_cursor true a k) (swing_cursor false b j) f)
        (hits s c a) refl (hits s c b) refl e
      where
        go : (near co s c n (beside true co a) (beside false co b) ≡ true → Hit) → (p : Bool) → hits s c a ≡ p → (q : Bool) → hits s c b ≡ q
            → cond p true (cond q true (near co s c n (beside true co a) (beside false co b))) ≡ true → Hit
        go ih true p q u e = hit_at a k p
        go ih false p true u e = hit_at b j u
        go ih false p false u e = ih e

    pub near_hit : (n : ℕ) → near co s c n c c ≡ true → Hit
    near_hit n e = hit_from n c c (inr here) (inr here) e

  -- ---- and they hit, where either walk comes to s

  front : (f : ℕ → ℕ) (a i : ℕ) → it f (f a) i ≡ it f a (suc i)
  front f a zero = refl
  front f a (suc i) = ap f (front f a i)

  abbrev Meets : ℕ → ℕ → ℕ → Type 0
  Meets a b i = (hits s c (it (beside true co) a i) ≡ true) ⊎ (hits s c (it (beside false co) b i) ≡ true)

  meets : (n i a b : ℕ) → i < n → Meets a b i → near co s c n a b ≡ true
  unfolding near
  meets zero i a b l h = absurd (omega arith)
  meets (suc n) i a b l h = go (λ j m. meets n j (beside true co a) (beside false co b) (omega arith)) i l h (hits s c a) refl (hits s c b) refl
    where
      go : ((j : ℕ) → suc j < suc n → Meets (beside true co a) (beside false co b) j → near co s c n (beside true co a) (beside false co b) ≡ true)
          → (i : ℕ) → i < suc n → Meets a b i
          → (p : Bool) → hits s c a ≡ p → (q : Bool) → hits s c b ≡ q
          → cond (hits s c a) true (cond (hits s c b) true (near co s c n (beside true co a) (beside false co b))) ≡ true
      go ih i m h true p q u = rw p
      go ih i m h false p true u = rw (p, u)
      go ih zero m (inl h) false p false u = absurd (false≢true (sym p ∙ h))
      go ih zero m (inr h) false p false u = absurd (false≢true (sym u ∙ h))
      go ih (suc j) m (inl h) false p false u =
          rw (p, u) (ih j m (inl (ap (λ (x : ℕ). hits s c x) (front (beside true co) a j) ∙ h)))
      go ih (suc j) m (inr h) false p false u =
          rw (p, u) (ih j m (inr (ap (λ (x : ℕ). hits s c x) (front (beside false co) b j) ∙ h)))

  swing_is : (way : Bool) (x : ℕ) → opp (turn way x) ≢ absent → beside way co x ≡ around way x
  unfolding beside
  swing_is way x m = rw (ne_eqb _ _ m)

  same_walk : (way : Bool) (i : ℕ) → ((j : ℕ) → j < i → opp (turn way (it (around way) c j)) ≢ absent)
      → it (beside way co) c i ≡ it (around way) c i
  same_walk way zero m = refl
  same_walk way (suc i) m =
      ap (beside way co) (same_walk way i (λ j h. m j (omega arith))) ∙ swing_is way (it (around way) c i) (m i (omega arith))

  found : (way : Bool) (n i : ℕ) → i < n → it (around way) c i ≡ s → ((j : ℕ) → j < i → opp (turn way (it (around way) c j)) ≢ absent)
      → near co s c n c c ≡ true
  found way n i l e m = go way (or_left (eqb (it (beside way co) c i) s) (ltb (it (beside way co) c i) c) (eq-eqb _ _ (same_walk way i m ∙ e)))
    where
      go : (way : Bool) → hits s c (it (beside way co) c i) ≡ true → near co s c n c c ≡ true
      go true h = meets n i c c l (inl h)
      go false h = meets n i c c l (inr h)

module _ {live : ℕ → Type 0} {vtx : ℕ → ℕ} (co : List ℕ) (L : Linked live (λ d. opposite_at co d) vtx) (n : ℕ)
    (below : (d : ℕ) → live d → d < n) (s c : ℕ) (alive : live s) (start : live c) where
  abbrev op : ℕ → ℕ
  op d = opposite_at co d

  w : Walk live (stuck_l op) (swing_l op) n c
  w = walk (lefts L n below) c start

  v : Walk live (stuck_r op) (swing_r op) n c
  v = walk (rights L n below) c start

  on_left : On (swing_l op) c w.last s → near co s c n c c ≡ true
  on_left o = found co s c true n o.place (omega (arith, o.within, w.small)) o.there (λ j h. w.moves j (omega (arith, o.within)))

  on_right : On (swing_r op) c v.last s → near co s c n c c ≡ true
  on_right o = found co s c false n o.place (omega (arith, o.within, v.small)) o.there (λ j h. v.moves j (omega (arith, o.within)))

  pub fan_near : Fan op s c → near co s c n c c ≡ true
  fan_near g = go w.ends
    where
      r : Conn (Left live op) c s
      r = conn_sym (fan_conn L alive g)

      go : Stop (stuck_l op) (swing_l op) c (it (swing_l op) c w.last) → near co s c n c c ≡ true
      go (closes m e) = on_left (closed_cover L n below c start w m e s r)
      go (border b) = at (open_cover L n below c start w b v s r)
        where
          at : On (swing_l op) c w.last s ⊎ On (swing_r op) c v.last s → near co s c n c c ≡ true
          at (inl o) = on_left o
          at (inr o) = on_right o
