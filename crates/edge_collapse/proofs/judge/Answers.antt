use Rattle.edge_collapse.specs.EdgeCollapse.{affects_boundary, unsafe}
use Rattle.edge_collapse.proofs.judge.Goals as goal

pub returns-in-Some : goal.returns-in-Some
unfolding affects_boundary unsafe
returns-in-Some c = rw (c.of.ensures.kept, c.of.ensures.lost, c.of.ensures.vertex) at c.in-Some.ensures
