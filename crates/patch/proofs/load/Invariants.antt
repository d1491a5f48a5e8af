use Rattle.std.proofs.Common.{◌≤◌, ◌*◌}
use Rattle.patch.proofs.load.Given as goal

abbrev pub invariant-loop-turn : goal.invariant-loop-turn
invariant-loop-turn g l = (l._turn ≤ 16) × (l.bytes ≤ 65536 * l._turn)
