-- `write_closed` meets its contract. Assumes nothing.
use Rattle.traversal_visits.proofs.Counting.{was_closed}
use Rattle.traversal_lists.proofs.Answers.{closed_done, left_inside}
use Rattle.traversal_lists.proofs.Reached.{they_fit}
use Rattle.traversal_visits.proofs.Steps.{face_used}
use native.Mathlib.Omega.{arith}
use Prim.Native.Nat.{◌+◌}
use mathlib.Core.Path.{◌∙◌}
use Rattle.std.proofs.lemmas.List.{length-take-le}
use Rattle.traversal_lists.proofs.write_closed.Goals as goal

pub overflow_add-n : goal.overflow_add-n
overflow_add-n c = omega (arith, (was_closed _ _ _ _ _ c.requires.l_value).bound)

pub previous-requires : goal.previous-requires
previous-requires c = omega (arith, face_used _ _ _ (was_closed _ _ _ _ _ c.requires.l_value).face, c.args.on.now.below, c.args.on.now.vertices)

pub write_side-requires : goal.write_side-requires
write_side-requires c =
    let a = c.args in
    let k = was_closed _ _ _ _ _ c.requires.l_value in
    rw (length-take-le (a.l + 1) a.list.now (omega (arith, c.requires.l_in_bounds)), c.previous.ensures.0)
    (left_inside _ _ _ _ _ (they_fit a.on.now) k.face _ k.count)

pub returns : goal.returns
returns c =
    let a = c.args in
    closed_done _ _ _ _ _ _ _ _ (was_closed _ _ _ _ _ c.requires.l_value) (they_fit a.on.now) c.requires.l_in_bounds _
    (c.write_side.ensures ∙ rw (length-take-le (a.l + 1) a.list.now (omega (arith, c.requires.l_in_bounds)), c.previous.ensures.0))
