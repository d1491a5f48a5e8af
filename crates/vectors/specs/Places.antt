-- Where a record lists the answer of its call: "4 build: answer, ..", "5 check: answer, ..", "6 run: answer, ..", "7 ring: kind, vertex,
-- answer, ..", "8 move: kind, corner, answer, ..". Any other record lists none: past its end.
use Rattle.std.specs.Prelude.{ℕ, cond, ltb, Option, Some, None}

unfoldable pub place_of : ℕ → ℕ
place_of op = cond (ltb op 4) 4294967295 (cond (ltb op 7) 0 (cond (ltb op 9) 2 4294967295))

-- what a place that is or is not there comes to
abbrev pub told : Option ℕ → ℕ
told None = 4294967295
told (Some i) = i
