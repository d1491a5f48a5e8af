-- `checker_quick::Used::runs` meets its contract: the face of a corner in use is there.
use native.Mathlib.Omega.{arith}
use Rattle.corner.proofs.Turns.{next_below, previous_below}
use Rattle.checker_quick.proofs.Used.runs.Goals as goal

pub at_there-requires : goal.at_there-requires
at_there-requires c =
    let z = c.args in
    let t = z.self.now.there in
    rw c.next_index.ensures (omega (arith, next_below z.o.0 z.self.now.t.corners t.thirds c.requires, t.vertices))

pub at_there-requires-then-at_there-ahead : goal.at_there-requires-then-at_there-ahead
at_there-requires-then-at_there-ahead c =
    let z = c.args in
    let t = z.self.now.there in
    rw c.previous_index.ensures (omega (arith, previous_below z.o.0 z.self.now.t.corners t.thirds c.requires, t.vertices))
