-- `checker_quick::Used::edge_fits` meets its contract: no opposite, or one that runs the other way.
use Rattle.checker_quick.proofs.Quick.{edge_none, edge_pair, paired_below}
use mathlib.Core.Path.{sym, ◌∙◌}
use borrow.Author.Tests.{eqb-true}
use Rattle.checker_quick.proofs.Used.edge_fits.Goals as goal

pub runs-requires : goal.runs-requires
runs-requires c = paired_below _ _ _ _ _ _ c.paired.ensures c.if-paired.true

pub returns-then-is_absent : goal.returns-then-is_absent
returns-then-is_absent c =
    λ a b e. edge_none _ _ _ _ _ _ c.opposite_there-o.ensures (eqb-true _ _ (sym c.is_absent.ensures ∙ e))

pub returns-then-paired : goal.returns-then-paired
returns-then-paired c =
    λ a b e.
    edge_pair _ _ _ _ _ _ c.opposite_there-o.ensures _ _ _ _ c.paired.ensures
    c.if-paired.true c.runs.ensures a b e
