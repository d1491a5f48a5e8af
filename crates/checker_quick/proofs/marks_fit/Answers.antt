-- `checker_quick::marks_fit` meets its contract.
use mathlib.Core.Path.{sym, ◌∙◌}
use Rattle.std.proofs.Common.{arith, rules, tests}
use Rattle.std.proofs.lemmas.Iterator.{YieldsList-from_range}
use Rattle.std.proofs.lemmas.Iterator.Search.{all_from_yields_List}
use Rattle.checker_rules.specs.Tests.{mark_test}
use Rattle.checker_quick.proofs.Quick.{all_below}
use Rattle.checker_quick.proofs.marks_fit.Goals as goal

pub returns : goal.returns
returns c =
    let is = all_from_yields_List (mark_test c.args.vm.now) _ _ c.all.result c.all.ensures.ran (YieldsList-from_range 0 c.args.nv c.args.nv (cc) (omega arith)) (λ x b q k. search (rules, tests)) in
    λ e. all_below _ _ (sym is ∙ e)
