use Rattle.std.proofs.Common.{rules}
use Rattle.edge_collapse.specs.EdgeCollapse.{unsafe}
use Rattle.edge_collapse.proofs.is_topologically_unsafe.Goals as goal

pub returns-then-times-gt1 : goal.returns-then-times-gt1
unfolding unsafe
returns-then-times-gt1 c = search rules

pub returns-else-times-gt1 : goal.returns-else-times-gt1
unfolding unsafe
returns-else-times-gt1 c = search rules
