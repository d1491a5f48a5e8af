use Prim.Native.Nat.{◌-◌}
use Rattle.table.specs.Parts.{SameParts, lent}
use Rattle.builder_fans.specs.Chains.{shared_of, chain_from}
use Rattle.builder_fans.proofs.Passes.{Taking}
use Rattle.builder_fans.proofs.take_chain.Given as goal

abbrev pub invariant-loop-step : goal.invariant-loop-step
invariant-loop-step l =
    record {
      parts : SameParts l.initial.t l.t;
      taking : Taking l.fn.room (lent l.initial.t) l.v.0 (chain_from (lent l.initial.t) l.v.0 l.first (shared_of (lent l.initial.t))) l.h
          (l.initial.t.corners - l._step) (lent l.t);
    }
