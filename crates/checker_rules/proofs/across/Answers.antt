-- `checker_rules::across` meets its contract: a turn of a corner that isn't absent is below absent, so it fits.
use native.Mathlib.Omega.{arith}
use mathlib.Core.Logic.{◌≢◌}
use mathlib.Core.Path.{refl, sym, ◌∙◌}
use borrow.Author.Tests.{eqb-false}
use Rattle.corner.specs.Corner.{absent}
use Rattle.corner.proofs.Turns.{turn_below}
use Rattle.checker_rules.proofs.across.Goals as goal

pub overflow_cast-result : goal.overflow_cast-result
overflow_cast-result c =
    let z = c.args in
    let n : z.o.0 ≢ absent = eqb-false _ _ (sym c.is_absent.ensures ∙ c.if-is_absent.false) in
    omega (arith, turn_below z.left z.o.0 absent refl (omega arith), c.turn_index.ensures)
