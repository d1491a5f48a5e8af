use Rattle.traversal_lists.proofs.Loops.{Writing}
use Rattle.traversal_lists.specs.Lists.{entry}
use lib.ListN.{length}
use Rattle.traversal_lists.proofs.write_side.Given as goal

abbrev pub invariant-loop-slot : goal.invariant-loop-slot
invariant-loop-slot l =
    Writing (entry l.kind l.on.cv.now l.left) l.left l.on.co.now (length l.on.cv.now) l.initial.list l.list 0 (length l.initial.list) l.o l.slot-index l.at
