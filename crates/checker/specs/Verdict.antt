-- A verdict: answer 0, 1 or 7, and the broken rule and slot, which are 0 but for 7.
use Rattle.std.specs.Prelude.{ℕ}

pub record Verdict : Type 0 where
  pub answer : ℕ
  pub rule : ℕ
  pub slot : ℕ
