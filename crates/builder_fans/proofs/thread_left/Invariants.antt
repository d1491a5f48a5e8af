use Rattle.builder_fans.proofs.Passes.{Threading}
use Rattle.builder_fans.proofs.thread_left.Given as goal

abbrev pub invariant-loop-c : goal.invariant-loop-c
invariant-loop-c l = Threading l.cv l.initial.cm l.initial.vm l.cm l.vm l.fn.t.corners l.c
