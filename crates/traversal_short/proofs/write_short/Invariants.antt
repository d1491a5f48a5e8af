use Rattle.traversal_short.proofs.Short.{Shortly}
use Prim.Native.Nat.{◌≤◌}
use Rattle.corner.specs.Corner.{absent}
use Rattle.traversal_short.proofs.write_short.Given as goal

abbrev pub invariant-loop-i : goal.invariant-loop-i
invariant-loop-i l = (l.o ≤ absent) × Shortly l.kind l.on l.last.0 l.initial.list l.list l.i l.o
