-- `Corners::of` meets its contract. Assumes nothing.
use native.Mathlib.Omega.{arith}
use Rattle.table.specs.Parts.{seen}
use Rattle.table.specs.Table.{Shaped}
use Rattle.table.proofs.Shape.{shaped_true}
use Rattle.traversal_visits.proofs.Corners.of.Goals as goal

pub invariant_of-result : goal.invariant_of-result
invariant_of-result c =
    let s : Shaped (seen c.args.t.now) = shaped_true _ c.requires in
    record {
      below = omega (arith, s.corner_most, s.corner_vertex_room);
      vertices = omega (arith, s.corner_vertex_room, c.used_slots.ensures);
      opposites = omega (arith, s.corner_opposite_room, c.used_slots.ensures);
      marks = omega (arith, c.used_slots.ensures);
    }
