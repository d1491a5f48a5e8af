-- Laws of the first index that fails a test: what a loop knows on its way, and what its result says. Assumes nothing.
use Prim.Native.Nat.{ℕ, zero, suc, ◌+◌, ◌≤◌, ◌<◌}
use mathlib.Core.Path.{◌≡◌, refl, sym, ap, ◌∙◌}
use mathlib.Core.Logic.{◌≢◌}
use mathlib.Core.Bool.{Bool, true, false, cond}
use native.Mathlib.Omega.{arith}
use native.Mathlib.Decide.{ℕ_discrete}
use borrow.Author.Count.{below_none, below_more}
use Rattle.std.proofs.Common.{Option, Some, None, unwrap_or}
use Rattle.std.specs.Option.{MatchOption}
use Rattle.checker.specs.First.{first_from, first_bad}

module _ (test : ℕ → Bool) where
  from_is : (k i r : ℕ) → i ≤ r → r ≤ k + i → ((j : ℕ) → i ≤ j → j < r → test j ≡ true) → (r < k + i → test r ≡ false) → first_from test k i ≡ r
  unfolding first_from
  from_is zero i r a b p q = omega arith
  from_is (suc k) i r a b p q =
      go (ℕ_discrete i r) (λ n. from_is k (suc i) r (omega arith) (omega arith) (λ j l h. p j (omega arith) h) (λ h. q (omega arith)))
    where
      go : Dec (i ≡ r) → (i ≢ r → first_from test k (suc i) ≡ r) → cond (test i) (first_from test k (suc i)) i ≡ r
      go (yes e) ih = rw (ap test e ∙ q (omega arith)) e
      go (no n) ih = rw (p i (omega arith) (omega arith)) (ih n)

  -- what is so far known of a loop at i
  pub record Passed (n i : ℕ) : Type 0 where
    pub within : i ≤ n
    pub passes : (j : ℕ) → j < i → test j ≡ true

  pub passed_more : (n i j : ℕ) → Passed n i → j ≡ i + 1 → i < n → true ≡ test i → Passed n j
  passed_more n i j p e l h = record { within = omega arith; passes = λ k m. below_more _ i p.passes (sym h) k (omega arith) }

  pub passed_bad : (n i : ℕ) → Passed n i → false ≡ test i → i ≡ first_bad test n
  unfolding first_bad
  passed_bad n i p h = sym (from_is n 0 i (omega arith) (omega (arith, p.within)) (λ j a b. p.passes j b) (λ l. sym h))

  pub passed_all : (n i : ℕ) → Passed n i → n ≤ i → i ≡ first_bad test n
  unfolding first_bad
  passed_all n i p h = sym (from_is n 0 i (omega arith) (omega (arith, p.within)) (λ j a b. p.passes j b) (λ l. absurd (omega arith)))

  -- what a search of the indices below n finds
  pub found : (n : ℕ) (r : Option ℕ) → MatchOption r ((k : ℕ) → 0 ≤ k → k < n → test k ≡ true)
      (λ i. (0 ≤ i) × (i < n) × (test i ≡ false) × ((k : ℕ) → 0 ≤ k → k < i → test k ≡ true)) → unwrap_or r n ≡ first_bad test n
  found n None h = passed_all n n (record { within = omega arith; passes = λ j l. h j (omega arith) l }) (omega arith)
  found n (Some i) h = passed_bad n i (record { within = omega (arith, h.1); passes = λ j l. h.3 j (omega arith) l }) (sym h.2)

  -- and read back: the first bad index is at most n, each below it passes, and it fails where it is below n
  pub record First (n i : ℕ) : Type 0 where
    pub within : i ≤ n
    pub passes : (j : ℕ) → j < i → test j ≡ true
    pub fails : i < n → test i ≡ false

  from_first : (k i : ℕ) → ((j : ℕ) → j < i → test j ≡ true) → First (k + i) (first_from test k i)
  unfolding first_from
  from_first zero i p = record { within = omega arith; passes = p; fails = λ h. absurd (omega arith) }
  from_first (suc k) i p = go (λ e. from_first k (suc i) (λ j h. below_more (λ j. test j ≡ true) i p e j (omega arith))) (test i) refl
    where
      go : (test i ≡ true → First (k + suc i) (first_from test k (suc i))) → (b : Bool) → test i ≡ b
          → First (suc k + i) (cond (test i) (first_from test k (suc i)) i)
      go ih true e =
          let f : First (k + suc i) (first_from test k (suc i)) = ih e in
          rw e (record { within = omega (arith, f.within); passes = f.passes; fails = λ h. f.fails (omega arith) })
      go ih false e = rw e (record { within = omega arith; passes = p; fails = λ h. e })

  pub first_bad_lem : (n : ℕ) → First n (first_bad test n)
  unfolding first_bad
  first_bad_lem n = go (from_first n 0 (below_none _))
    where
      go : First (n + 0) (first_from test n 0) → First n (first_from test n 0)
      go f = record { within = omega (arith, f.within); passes = f.passes; fails = λ h. f.fails (omega arith) }

  -- nothing fails exactly where all pass
  pub all_pass : (n : ℕ) → n ≤ first_bad test n → (j : ℕ) → j < n → test j ≡ true
  all_pass n h j l = (first_bad_lem n).passes j (omega arith)

  pub pass_all : (n : ℕ) → ((j : ℕ) → j < n → test j ≡ true) → n ≤ first_bad test n
  unfolding first_bad
  pass_all n p = omega (arith, from_is n 0 n (omega arith) (omega arith) (λ j a b. p j b) (λ l. absurd (omega arith)))
