-- `write_side` meets its contract. Assumes nothing.
use Rattle.traversal_lists.proofs.Loops.{writing_start, writing_full, writing_here, writing_via, writing_more}
use mathlib.Core.Path.{refl}
use native.Mathlib.Omega.{arith}
use Rattle.traversal_lists.proofs.write_side.Goals as goal

pub loop-slot-init : goal.loop-slot-init
loop-slot-init c = writing_start _ _ _ _ _ _ _ _ c.requires

pub entry-requires : goal.entry-requires
entry-requires c = (writing_here _ _ _ _ _ _ _ _ _ _ _ c.loop-slot.invariant (omega arith), c.args.on.now.below)

pub at_there-at-requires : goal.at_there-at-requires
at_there-at-requires c = rw c.turn_index.ensures (writing_via _ _ _ _ _ _ _ _ _ _ _ c.loop-slot.invariant (omega arith))

pub loop-slot-preserved : goal.loop-slot-preserved
loop-slot-preserved c = writing_more _ _ _ _ _ _ _ _ _ _ _ c.loop-slot.invariant (omega arith) _ c.entry.ensures _ refl _ c.turn_index.ensures _ c.at_there-at.ensures

pub shape_of-list : goal.shape_of-list
shape_of-list c = c.loop-slot.invariant.done.size

pub returns : goal.returns
returns c = writing_full _ _ _ _ _ _ _ _ _ c.loop-slot.invariant (omega arith)
