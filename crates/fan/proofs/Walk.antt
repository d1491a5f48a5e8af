-- A walk by a partial injective step on finitely many numbers: it closes or stops, without repetition. Assumes nothing.
use mathlib.Core.Path.{◌≡◌, sym}
use mathlib.Core.Logic.{◌≢◌, ◌⊎◌, inl, inr}
use Prim.Native.Nat.{ℕ, zero, suc, ◌≤◌, ◌<◌}
use native.Mathlib.Omega.{arith}
use native.Mathlib.Decide.{ℕ_discrete}
use Rattle.fan.proofs.Pigeon.{LeastBelow, least, Clash, pigeon}

pub record Moves (P stuck : ℕ → Type 0) (f : ℕ → ℕ) (n : ℕ) : Type 0 where
  pub decides : (d : ℕ) → Dec (stuck d)
  pub below : (d : ℕ) → P d → d < n
  pub keeps : (d : ℕ) → P d → ¬ stuck d → P (f d)
  pub injects : (d e : ℕ) → P d → P e → ¬ stuck d → ¬ stuck e → f d ≡ f e → d ≡ e

abbrev pub it : (ℕ → ℕ) → ℕ → ℕ → ℕ
it f c zero = c
it f c (suc k) = f (it f c k)

-- the walk from c stops at d: it can't step, or its step closes the ring
pub data Stop (stuck : ℕ → Type 0) (f : ℕ → ℕ) (c d : ℕ) : Type 0 where
  border : stuck d → Stop stuck f c d
  closes : ¬ stuck d → f d ≡ c → Stop stuck f c d

pub record Walk (P stuck : ℕ → Type 0) (f : ℕ → ℕ) (n c : ℕ) : Type 0 where
  pub last : ℕ
  pub small : last < n
  pub lives : (i : ℕ) → i ≤ last → P (it f c i)
  pub moves : (i : ℕ) → i < last → ¬ stuck (it f c i)
  pub opens : (i : ℕ) → i < last → it f c (suc i) ≢ c
  pub apart : (i j : ℕ) → i < j → j ≤ last → it f c i ≢ it f c j
  pub ends : Stop stuck f c (it f c last)

module _ {P stuck : ℕ → Type 0} {f : ℕ → ℕ} {n : ℕ} (M : Moves P stuck f n) (c : ℕ) (start : P c) where
  stops? : (d : ℕ) → Dec (Stop stuck f c d)
  stops? d = go (M.decides d) (ℕ_discrete (f d) c)
    where
      go : Dec (stuck d) → Dec (f d ≡ c) → Dec (Stop stuck f c d)
      go (yes s) e = yes (border s)
      go (no s) (yes e) = yes (closes s e)
      go (no s) (no e) = no bad
        where
          bad : Stop stuck f c d → ⊥
          bad (border t) = s t
          bad (closes t u) = e u

  -- while the walk hasn't stopped it is among the live ones
  on : (k : ℕ) → ((i : ℕ) → i < k → ¬ Stop stuck f c (it f c i)) → (i : ℕ) → i ≤ k → P (it f c i)
  on k h zero l = start
  on k h (suc i) l = M.keeps (it f c i) (on k h i (omega arith)) (λ s. h i (omega arith) (border s))

  -- a repetition goes back to a return to the start
  returns : (k : ℕ) → ((i : ℕ) → i < k → ¬ Stop stuck f c (it f c i)) → (i j : ℕ) → i < j → j ≤ k → it f c i ≢ it f c j
  returns k h zero zero l m e = absurd (omega arith)
  returns k h zero (suc j) l m e = h j (omega arith) (closes (λ s. h j (omega arith) (border s)) (sym e))
  returns k h (suc i) zero l m e = absurd (omega arith)
  returns k h (suc i) (suc j) l m e = returns k h i j (omega arith) (omega arith)
      (M.injects (it f c i) (it f c j) (on k h i (omega arith)) (on k h j (omega arith)) (λ s. h i (omega arith) (border s)) (λ s. h j (omega arith) (border s)) e)

  pub walk : Walk P stuck f n c
  walk = go (least (λ i. Stop stuck f c (it f c i)) (λ i. stops? (it f c i)) n)
    where
      go : LeastBelow (λ i. Stop stuck f c (it f c i)) n ⊎ ((i : ℕ) → i < n → ¬ Stop stuck f c (it f c i)) → Walk P stuck f n c
      go (inl l) = record {
        last = l.at;
        small = l.small;
        lives = on l.at l.before;
        moves = λ i h s. l.before i h (border s);
        opens = λ i h e. l.before i h (closes (λ s. l.before i h (border s)) e);
        apart = returns l.at l.before;
        ends = l.holds;
      }
      go (inr none) =
          let k : Clash (λ i. it f c i) n = pigeon n (λ i. it f c i) (λ i h. M.below (it f c i) (on n none i h)) in
          absurd (returns n none k.low k.high k.less k.within k.same)
