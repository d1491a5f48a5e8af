-- `by_one_walk` meets its contract. Assumes nothing.
use mathlib.Core.Path.{refl}
use Rattle.traversal_short.proofs.Short.{tried_back}
use Rattle.traversal_short.proofs.by_one_walk.Goals as goal

pub returns-then-is_none : goal.returns-then-is_none
returns-then-is_none c =
    tried_back _ _ _ _ _ _ c.if-is_none.ensures c.write_short_as-done.ensures _ _ c.copy_from_slice.ensures.after
    (rw c.copy_from_slice-then-is_none.ensures.after refl)
