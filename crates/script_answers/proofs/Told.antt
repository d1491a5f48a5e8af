-- What a judgement says of both tests of a collapse. Assumes nothing.
use Prim.Native.Nat.{ℕ}
use mathlib.Core.Path.{◌≡◌, refl, ap, ◌∙◌}
use mathlib.Core.Bool.{Bool, true, false}
use native.Mathlib.Omega.{arith}
use Rattle.edge_collapse.specs.declared.Judgement.{Judgement}
use Rattle.edge_collapse.specs.declared.Judgement.TheVariants.{Safe, Unsafe, Boundary}
use Rattle.edge_collapse.specs.Judged.{judged}
use Rattle.script_command.specs.Checks.{first, when}
use Rattle.script_command.proofs.Chain.{chain, passes, first_none}

-- what is refused for it, which tells one from another
abbrev refused : Judgement → ℕ
refused Boundary = 11
refused Unsafe = 13
refused Safe = 0

module _ (w : ℕ) where
  pub told_border : (b u : Bool) → Boundary ≡ judged b u → first (when b 11) (first w (when u 13)) ≡ 11
  unfolding first
  told_border true u h = refl
  told_border false true h = absurd (omega (arith, ap refused h))
  told_border false false h = absurd (omega (arith, ap refused h))

  pub told_unsafe : (b u : Bool) → Unsafe ≡ judged b u → first (when b 11) (first w (when u 13)) ≡ first w 13
  told_unsafe true u h = absurd (omega (arith, ap refused h))
  told_unsafe false true h = passes 0 (first w 13) refl
  told_unsafe false false h = absurd (omega (arith, ap refused h))

  pub told_safe : (b u : Bool) → Safe ≡ judged b u → first (when b 11) (first w (when u 13)) ≡ w
  told_safe true u h = absurd (omega (arith, ap refused h))
  told_safe false true h = absurd (omega (arith, ap refused h))
  told_safe false false h = passes 0 (first w 0) refl ∙ first_none w

pub ruleset told = (chain, told_border, told_unsafe, told_safe)
