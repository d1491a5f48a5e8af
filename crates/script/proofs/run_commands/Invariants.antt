use Rattle.script.proofs.Loop.{Running}
use Rattle.table.specs.Parts.{lent, SameParts}
use Rattle.script.proofs.run_commands.Given as goal

abbrev pub invariant-loop-i : goal.invariant-loop-i
invariant-loop-i l =
    Running l.script l.n l.i l.initial.answers l.answers (lent l.initial.t) (lent l.t) × SameParts l.initial.t l.t
