use Rattle.std.proofs.Common.{◌≤◌, ◌+◌}
use Rattle.vectors.proofs.play.Given as goal

-- Each record that is wrong is one that has come.
abbrev pub invariant-loop-k : goal.invariant-loop-k
invariant-loop-k g l =
    (goal.iterator-loop-k g).can_next l.k-iterator
    × (goal.iterator-loop-k g).is_finite l.k-iterator
    × (l.wrong + (goal.iterator-loop-k g).remaining l.k-iterator ≤ 409600)
