use Rattle.script.proofs.Arms.{run_1, run_8, run_7, run_0, good}
use Rattle.script.proofs.run.Goals as goal

pub returns-then-not-is_shaped-clause-outcome : goal.returns-then-not-is_shaped-clause-outcome
returns-then-not-is_shaped-clause-outcome c = run_1 _ _ _ _ c.seen.ensures _ c.is_shaped.ensures c.if-not-is_shaped.true

pub returns-then-not-fits-clause-outcome : goal.returns-then-not-fits-clause-outcome
returns-then-not-fits-clause-outcome c =
    run_8 _ _ _ _ c.seen.ensures _ c.is_shaped.ensures c.if-not-is_shaped.false _ c.fits.ensures c.if-not-fits.true

pub returns-in_err-check-clause-outcome : goal.returns-in_err-check-clause-outcome
returns-in_err-check-clause-outcome c =
    run_7 _ _ _ _ c.seen.ensures _ c.is_shaped.ensures c.if-not-is_shaped.false _ c.fits.ensures c.if-not-fits.false _ _
    c.from_residual.ensures (rw c.seen-2.ensures at c.in_err-check.ensures)

pub run_commands-requires-clause-good : goal.run_commands-requires-clause-good
run_commands-requires-clause-good c = good _ (rw c.seen-2.ensures at c.in_ok-check.ensures)

pub returns-clause-outcome : goal.returns-clause-outcome
returns-clause-outcome c =
    run_0 _ _ _ _ c.seen.ensures _ c.is_shaped.ensures c.if-not-is_shaped.false _ c.fits.ensures c.if-not-fits.false
    (rw c.seen-2.ensures at c.in_ok-check.ensures) _ _ c.run_commands.ensures.completed
