use Rattle.table.specs.Slots.{nought}
use Rattle.table.proofs.Blanking.{cleared}
use Rattle.table.proofs.Lent.blank.Goals as goal

pub returns-clause-table : goal.returns-clause-table
unfolding nought
returns-clause-table c =
    cleared _ _ _ _ _ _ _ _ _ _ _ _ _ _ c.requires
    (c.fill.ensures.after (λ y e. e), c.fill-2.ensures.after (λ y e. e), c.fill-3.ensures.after (λ y e. e), c.fill-4.ensures.after (λ y e. e), c.fill-5.ensures.after (λ y e. e), c.fill-6.ensures.after (λ y e. e))
