-- A face whose corners are paired by search has grown the table as `Grown` says. Assumes nothing.
use mathlib.Core.Path.{◌≡◌, refl, sym, ◌∙◌}
use mathlib.Core.Logic.{◌≢◌, ◌⊎◌, inl, inr}
use Prim.Native.Nat.{ℕ, ◌+◌, ◌≤◌, ◌<◌}
use native.Mathlib.Omega.{arith}
use Rattle.corner.specs.Corner.{next, previous, absent}
use Rattle.corner.proofs.Turns.{previous_injective}
use Rattle.builder_build.specs.Ready.{Same, Paired}
use Rattle.builder_build.proofs.Grow.{Reversed, New, Goes, stays, meets, Grown, new_once, new_previous}

-- o is the corner below n whose edge runs the other way than k's, or absent where there is none
pub data Link (n : ℕ) (vtx vtx' : ℕ → ℕ) (k o : ℕ) : Type 0 where
  bare : o ≡ absent → ((d : ℕ) → d < n → Reversed vtx vtx' d k → ⊥) → Link n vtx vtx' k o
  linked : o < n → Reversed vtx vtx' o k → Link n vtx vtx' k o

pub data Place (n : ℕ) (opp opp' o : ℕ → ℕ) (d : ℕ) : Type 0 where
  apart : ((k : ℕ) → New n k → d ≢ o k) → opp' d ≡ opp d → Place n opp opp' o d
  met : (k : ℕ) → New n k → d ≡ o k → opp' d ≡ k → Place n opp opp' o d

module _ {n : ℕ} {opp vtx opp' vtx' : ℕ → ℕ} (P : Paired n opp vtx) (room : n + 3 ≤ absent) (keeps : (d : ℕ) → d < n → vtx' d ≡ vtx d)
    (differ : (k : ℕ) → New n k → vtx' k ≢ vtx' (next k)) (free : (d k : ℕ) → d < n → New n k → Same vtx vtx' d k → ⊥)
    (o : ℕ → ℕ) (link : (k : ℕ) → New n k → Link n vtx vtx' k (o k)) (at_new : (k : ℕ) → New n k → opp' k ≡ o k)
    (at_old : (d : ℕ) → d < n → Place n opp opp' o d) where
  one : (d k : ℕ) → d < n → New n k → Link n vtx vtx' k (o k) → Reversed vtx vtx' d k → d ≡ o k
  one d k h w (bare e all) r = absurd (all d h r)
  one d k h w (linked l r') r = P.once d (o k) h l (record { tail = r.tail ∙ sym r'.tail; head = r.head ∙ sym r'.head })

  old : (d : ℕ) → d < n → Goes n opp vtx opp' vtx' d
  old d h = go (at_old d h)
    where
      rev : (k : ℕ) → d ≡ o k → Link n vtx vtx' k (o k) → Reversed vtx vtx' d k
      rev k e (bare z all) = absurd (omega arith)
      rev k e (linked l r) = rw e r

      go : Place n opp opp' o d → Goes n opp vtx opp' vtx' d
      go (apart all e) = stays e (λ k w r. all k w (one d k h w (link k w) r))
      go (met k w e q) = meets k w q (at_new k w ∙ sym e) (rev k e (link k w))

  -- the corner that was found names the new one
  back : (k : ℕ) → New n k → o k < n → opp' (o k) ≡ k
  back k w l = go (at_old (o k) l)
    where
      same : (j : ℕ) → New n j → o k ≡ o j → Link n vtx vtx' k (o k) → Link n vtx vtx' j (o j) → Reversed vtx vtx' (o k) k × Reversed vtx vtx' (o k) j
      same j v e (bare z all) y = absurd (omega arith)
      same j v e (linked a r) (bare z all) = absurd (omega arith)
      same j v e (linked a r) (linked b s) = (r, rw e s)

      go : Place n opp opp' o (o k) → opp' (o k) ≡ k
      go (apart all e) = absurd (all k w refl)
      go (met j v e q) = q ∙ sym (twins j v (same j v e (link k w) (link j v)))
        where
          twins : (j : ℕ) → New n j → Reversed vtx vtx' (o k) k × Reversed vtx vtx' (o k) j → k ≡ j
          twins j v rs = previous_injective k j (new_once n P.thirds vtx' differ (previous k) (previous j) (new_previous n P.thirds k w) (new_previous n P.thirds j v) (sym rs.0.tail ∙ rs.1.tail))

  new : (k : ℕ) → New n k → (opp' k ≡ absent) ⊎ ((opp' k < n) × (opp' (opp' k) ≡ k) × Reversed vtx vtx' (opp' k) k)
  new k w = go (link k w)
    where
      go : Link n vtx vtx' k (o k) → (opp' k ≡ absent) ⊎ ((opp' k < n) × (opp' (opp' k) ≡ k) × Reversed vtx vtx' (opp' k) k)
      go (bare e all) = inl (at_new k w ∙ e)
      go (linked l r) = inr (rw (at_new k w) (l, back k w l, r))

  pub meet_grown : Grown n opp vtx opp' vtx'
  meet_grown = record { room = room; keeps = keeps; differ = differ; free = free; old = old; new = new }
