-- `checker::check` meets its contract: the two arms of the verdict.
use Rattle.checker.proofs.Order.{verdict_shaped, verdict_unshaped}
use Rattle.checker.proofs.check.Goals as goal

pub returns-then-is_shaped : goal.returns-then-is_shaped
returns-then-is_shaped c = verdict_shaped _ _ c.is_shaped.ensures _ c.if-is_shaped.true c.ruled.ensures

pub returns-else-is_shaped : goal.returns-else-is_shaped
returns-else-is_shaped c = verdict_unshaped _ _ c.is_shaped.ensures c.if-is_shaped.false
