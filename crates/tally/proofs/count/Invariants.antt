use Rattle.std.proofs.Common.{◌≡◌, ℕ, ◌≤◌, Bool}
use Rattle.table.specs.Euler.{count}
use Rattle.tally.proofs.count.Given as goal

abbrev pub invariant-loop-i : goal.invariant-loop-i
invariant-loop-i g l =
    (l.total ≤ l.i) × ((p : ℕ → Bool) → ((i : ℕ) (r : Bool) → goal.F-post g l.passes i r → r ≡ p i) → l.total ≡ count l.i p)
