use Rattle.std.proofs.Common.{◌≡◌, ℕ, Bool, true, get_or}
use Rattle.words.specs.Same.{every}
use Rattle.words.proofs.holds_same.Given as goal

abbrev pub invariant-loop-k : goal.invariant-loop-k
invariant-loop-k g l =
    (none : _) (p : _ → ℕ → Bool) → ((x : _) (y : ℕ) (r : Bool) → goal.F-post g l.same x y r → r ≡ p x y)
    → every l.k (λ k. p (get_or l.l k none) (get_or l.w k l.rest)) ≡ true
