-- A live slot by its test and by its statement: used, with mark 0. Assumes nothing.
use mathlib.Core.Path.{◌≡◌, refl, sym, ◌∙◌}
use mathlib.Core.Bool.{Bool, true, false, ◌&&◌, false≢true}
use mathlib.Core.List.{List}
use Prim.Native.Nat.{ℕ, ◌≤◌, ◌<◌}
use native.Mathlib.Omega.{arith}
use native.Mathlib.Decide.{ℕ_discrete, dec_lt}
use borrow.Author.Tests.{lt-ltb, le-ltb, ltb-true, eq-eqb, eqb-true}
use lib.Dec.{eqb, ltb}
use lib.ListN.{length, get_or-eq_default}
use Rattle.table.specs.Slots.{mark_at}
use Rattle.table.specs.Table.{live}

module _ (marks : List ℕ) (n i : ℕ) where
  pub live_from : (b : Bool) → b ≡ eqb (mark_at marks i) 0 → i < n → b ≡ live marks n i
  unfolding live
  live_from b e h = rw (lt-ltb i n h) e

  pub not_live : n ≤ i → false ≡ live marks n i
  unfolding live
  not_live h = rw (le-ltb i n h)

  -- the test passes exactly where the slot is below the count with mark 0 ...
  pub live_true : live marks n i ≡ true → (i < n) × (mark_at marks i ≡ 0)
  unfolding live
  live_true e = go (ltb i n) (eqb (mark_at marks i) 0) refl refl e
    where
      go : (a b : Bool) → ltb i n ≡ a → eqb (mark_at marks i) 0 ≡ b → a && b ≡ true → (i < n) × (mark_at marks i ≡ 0)
      go true true p q h = (ltb-true _ _ p, eqb-true _ _ q)
      go true false p q h = absurd (false≢true h)
      go false b p q h = absurd (false≢true h)

  pub true_live : (i < n) × (mark_at marks i ≡ 0) → live marks n i ≡ true
  unfolding live
  true_live h = rw (lt-ltb i n h.0, eq-eqb _ _ h.1)

  -- ... and such a slot is inside the room
  pub live_inside : mark_at marks i ≡ 0 → i < length marks
  live_inside e = go (dec_lt i (length marks))
    where
      go : Dec (i < length marks) → i < length marks
      go (yes h) = h
      go (no h) = absurd (one (sym (get_or-eq_default marks 1 (omega arith)) ∙ e))
        where
          one : ◌≡◌ {A = ℕ} 1 0 → ⊥
          one z = omega arith

  pub live? : Dec ((i < n) × (mark_at marks i ≡ 0))
  live? = go (dec_lt i n) (ℕ_discrete (mark_at marks i) 0)
    where
      go : Dec (i < n) → Dec (mark_at marks i ≡ 0) → Dec ((i < n) × (mark_at marks i ≡ 0))
      go (yes a) (yes b) = yes (a, b)
      go (yes a) (no b) = no (λ z. b z.1)
      go (no a) b = no (λ z. a z.0)
