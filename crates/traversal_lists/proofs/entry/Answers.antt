-- `entry` meets its contract. Assumes nothing.
use Rattle.corner.proofs.Turns.{turn_below}
use Rattle.corner.specs.Corner.{absent}
use mathlib.Core.Bool.{not}
use mathlib.Core.Path.{refl}
use native.Mathlib.Omega.{arith}
use Rattle.traversal_lists.proofs.entry.Goals as goal

pub overflow_cast-result : goal.overflow_cast-result
overflow_cast-result c = let a = c.args in omega (arith, turn_below a.left a.o.0 absent refl (omega (arith, c.requires)), c.turn_index.ensures)

pub overflow_cast-result-in-Edges : goal.overflow_cast-result-in-Edges
overflow_cast-result-in-Edges c = let a = c.args in omega (arith, turn_below (not a.left) a.o.0 absent refl (omega (arith, c.requires)), c.turn_index-in-Edges.ensures)
