use Rattle.table.specs.Parts.{SameParts, lent}
use Rattle.builder_fans.specs.Chains.{shared_of, chains_of}
use Rattle.builder_fans.proofs.Runs.{Running}
use Rattle.builder_fans.proofs.spread.Given as goal

abbrev pub invariant-loop-v : goal.invariant-loop-v
invariant-loop-v l =
    record {
      parts : SameParts l.initial.t l.t;
      running : Running l.fn.room (lent l.initial.t) (chains_of (lent l.initial.t) l.initial.t.vertices 0 (shared_of (lent l.initial.t))) l.v (lent l.t);
    }
