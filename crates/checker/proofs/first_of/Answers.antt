-- `checker::first_of` meets its contract: the search finds the first slot that fails.
use mathlib.Core.Path.{◌≡◌}
use mathlib.Core.Bool.{true, false}
use Rattle.std.proofs.Common.{rules, tests}
use Rattle.std.proofs.lemmas.Iterator.{first_from_Range}
use Rattle.table.specs.Parts.{seen}
use Rattle.checker_rules.specs.Tests.{holds}
use Rattle.checker.specs.Order.{first_of}
use Rattle.checker.proofs.First.{found}
use Rattle.checker.proofs.first_of.Goals as goal

pub returns-clause-first : goal.returns-clause-first
unfolding first_of
returns-clause-first c =
    let test = holds c.args.test (seen c.args.t.now) in
    let is =
    first_from_Range _ _ _ _ (λ i. test i ≡ false) (λ i. test i ≡ true) c.find.ensures.ran
    (λ x q k. search (rules, tests))
    (λ x q k. search (rules, tests)) in
    found test _ _ (rw c.span.ensures at is)
