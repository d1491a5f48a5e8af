-- The first index below n that fails a test, or n where none does. Every loop of the checker finds one.
use Rattle.std.specs.Prelude.{ℕ, zero, suc, Bool, cond}

-- of the k indices from i on
unfoldable pub first_from : (ℕ → Bool) → ℕ → ℕ → ℕ
first_from test zero i = i
first_from test (suc k) i = cond (test i) (first_from test k (suc i)) i

unfoldable pub first_bad : (ℕ → Bool) → ℕ → ℕ
first_bad test n = first_from test n 0
