-- A chain of checks: as numbers, and as Results that `?` joins. Assumes nothing.
use Prim.Native.Nat.{ℕ, ◌<◌}
use mathlib.Core.Path.{◌≡◌, refl, sym, ap, ◌∙◌}
use mathlib.Core.Bool.{Bool, true, false, cond}
use native.Mathlib.Omega.{arith}
use native.Mathlib.Decide.{ℕ_discrete}
use borrow.Author.Tests.{eq-eqb, ne_eqb}
use lib.Dec.{eqb}
use Rattle.refusal.specs.declared.Refusal.{Refusal}
use Rattle.refusal.specs.Refusal.{number_of}
use Rattle.refusal.proofs.Numbers.{numbered, handed_on}
use Rattle.script_command.specs.Checks.{first, when}

-- ---- by Results

-- a check that refuses ends the chain; one that passes hands on
pub refuses : (e : Refusal) (a b : ℕ) → number_of e ≡ a → first a b ≡ number_of e
unfolding first
refuses e a b h = rw (← h, numbered e)

pub passes : (a b : ℕ) → 0 ≡ a → first a b ≡ b
unfolding first
passes a b h = rw (eq-eqb a 0 (sym h))

pub ruleset chain = (handed_on, refuses, passes)

-- ---- by numbers

-- a chain that answers 0 has passed each check
pub first_left : (a b : ℕ) → first a b ≡ 0 → a ≡ 0
unfolding first
first_left a b h = go (ℕ_discrete a 0)
  where
    go : Dec (a ≡ 0) → a ≡ 0
    go (yes e) = e
    go (no e) = rw (ne_eqb a 0 e) at h

pub first_right : (a b : ℕ) → first a b ≡ 0 → b ≡ 0
unfolding first
first_right a b h = rw (eq-eqb a 0 (first_left a b h)) at h

pub when_false : (t : Bool) (n : ℕ) → 0 < n → when t n ≡ 0 → t ≡ false
when_false true n p h = absurd (omega arith)
when_false false n p h = refl

-- a check that always passes may stand last
pub first_none : (a : ℕ) → first a 0 ≡ a
unfolding first
first_none a = go (ℕ_discrete a 0)
  where
    go : Dec (a ≡ 0) → cond (eqb a 0) 0 a ≡ a
    go (yes e) = rw (eq-eqb a 0 e) (sym e)
    go (no e) = rw (ne_eqb a 0 e)

-- two chains whose checks are the same as far as they are reached
pub first_same : (a b x y : ℕ) → a ≡ x → (a ≡ 0 → b ≡ y) → first a b ≡ first x y
unfolding first
first_same a b x y p q = go (ℕ_discrete a 0)
  where
    go : Dec (a ≡ 0) → cond (eqb a 0) b a ≡ cond (eqb x 0) y x
    go (yes e) = rw (eq-eqb a 0 e, eq-eqb x 0 (sym p ∙ e)) (q e)
    go (no e) = rw (ne_eqb a 0 e, ne_eqb x 0 (λ z. e (p ∙ z))) p
