use Rattle.ring.proofs.Labels.{ring_open, ring_closed}
use Rattle.ring.proofs.label.Goals as goal

pub returns-then-label_side : goal.returns-then-label_side
returns-then-label_side c = let a = c.args in ring_open a.co.now a.n a.c.0 a.v a.l.now c.put.new.l c.label_side.new.l c.label_side.result (rw c.index.ensures at c.put.ensures) c.label_side.ensures c.if-label_side.true c.label_side-then-label_side.new.l c.label_side-then-label_side.result c.label_side-then-label_side.ensures

pub returns-else-label_side : goal.returns-else-label_side
returns-else-label_side c = let a = c.args in ring_closed a.co.now a.n a.c.0 a.v a.l.now c.put.new.l c.label_side.new.l c.label_side.result (rw c.index.ensures at c.put.ensures) c.label_side.ensures c.if-label_side.false
