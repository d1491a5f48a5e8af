-- What holds of every move, as statements. Document 01, "Ring lists and the walker"; proofs/Sound.antt proves them for all five.
use Rattle.std.specs.Prelude.{ℕ, ◌≡◌, ◌≢◌, false}
use Rattle.table.specs.Table.{Table, Shaped}
use Rattle.table.specs.Rules.{WellFormed}
use Rattle.walker.specs.Walker.{Moved}

-- "A well-formed table never gets 15", from any corner
abbrev pub NeverTangled : (Table → ℕ → Moved) → Type 0
NeverTangled move = (t : Table) → Shaped t → WellFormed t → (c : ℕ) → (move t c).step.answer ≢ 15

-- "After any refusal, also halfway through a swing, it stands where it began", and one that did not move stands there too
abbrev pub StandsStill : (Table → ℕ → Moved) → Type 0
StandsStill move = (t : Table) (c : ℕ) → (move t c).step.answer ≢ 0 → ((move t c).corner.0 ≡ c) × ((move t c).step.moved ≡ false)

abbrev pub SaysSo : (Table → ℕ → Moved) → Type 0
SaysSo move = (t : Table) (c : ℕ) → (move t c).step.moved ≡ false → (move t c).corner.0 ≡ c
