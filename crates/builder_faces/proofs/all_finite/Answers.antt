use mathlib.Core.Path.{◌≡◌}
use mathlib.Core.Bool.{true, false}
use Rattle.std.proofs.Common.{rules}
use borrow.Author.Tests.{tests}
use Rattle.std.specs.Float.Ieee.Scale.{finite}
use Rattle.std.proofs.lemmas.Iterator.{cases_from_all, YieldsList-from_slice}
use Rattle.builder_faces.proofs.Laying.{finite_each}
use Rattle.builder_faces.proofs.all_finite.Goals as goal

pub returns : goal.returns
returns c =
    finite_each _ _
    (cases_from_all _ _ _ (λ x. finite x ≡ true) (λ x. finite x ≡ false) c.all.ensures.ran (YieldsList-from_slice c.args.points.now cc)
    (λ x q k. search (rules, tests)) (λ x q k. search (rules, tests)))
