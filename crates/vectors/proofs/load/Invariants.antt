use Rattle.std.proofs.Common.{◌≤◌, ◌*◌}
use Rattle.vectors.proofs.load.Given as goal

abbrev pub invariant-loop-turn : goal.invariant-loop-turn
invariant-loop-turn g l = (l._turn ≤ 25) × (l.n ≤ 16384 * l._turn)
