use Rattle.traversal_visits.proofs.Counting.{Crossing, from_slot}
use Rattle.traversal_visits.specs.Walk.{side, last_crossed}
use Rattle.corner.specs.Corner.{turn}
use Prim.Native.Nat.{◌<◌, ◌-◌}
use lib.ListN.{length}
use mathlib.Core.Path.{◌≡◌}
use mathlib.Core.Bool.{not}
use Rattle.traversal_visits.proofs.count_side.Given as goal

abbrev pub invariant-loop-visits : goal.invariant-loop-visits
invariant-loop-visits l =
    (l.via < length l.co) × (l.last.0 ≡ last_crossed l.left (turn (not l.left) l.initial.via))
    × Crossing (side l.left l.co l.cm l.used (turn (not l.left) l.initial.via) (l.most - 1) (turn (not l.left) l.initial.via))
    (from_slot l.left l.co l.cm l.used (turn (not l.left) l.initial.via) l.via) l.most l.visits
