-- `write_open` meets its contract. Assumes nothing.
use Rattle.traversal_visits.proofs.Counting.{was_open}
use Rattle.traversal_lists.proofs.Answers.{open_done, one_at_most, left_inside, right_inside}
use Rattle.traversal_lists.proofs.Reached.{they_fit}
use Rattle.traversal_visits.proofs.Steps.{face_used, face_turn}
use Rattle.traversal_lists.specs.Lists.{twice}
use mathlib.Core.Path.{refl, ◌∙◌}
use mathlib.Core.Bool.{false}
use native.Mathlib.Omega.{arith}
use Prim.Native.Nat.{◌+◌}
use Rattle.std.proofs.lemmas.List.{length-take-le}
use Rattle.traversal_lists.proofs.write_open.Goals as goal

pub overflow_add-n : goal.overflow_add-n
overflow_add-n c = omega (arith, (was_open _ _ _ _ _ _ c.requires.r_value).bound)

pub overflow_add-m : goal.overflow_add-m
overflow_add-m c = omega (arith, (was_open _ _ _ _ _ _ c.requires.r_value).bound, c.args.on.now.below, c.args.on.now.vertices, c.extra.ensures, one_at_most (twice c.args.kind))

pub overflow_add-seen : goal.overflow_add-seen
overflow_add-seen c = omega (arith, (was_open _ _ _ _ _ _ c.requires.r_value).bound)

pub overflow_add-result : goal.overflow_add-result
overflow_add-result c = omega (arith, (was_open _ _ _ _ _ _ c.requires.r_value).bound, c.args.on.now.below, c.args.on.now.vertices, c.extra.ensures, one_at_most (twice c.args.kind))

pub right_from-o-requires : goal.right_from-o-requires
right_from-o-requires c = (omega (arith, face_used _ _ _ (was_open _ _ _ _ _ _ c.requires.r_value).face, c.args.on.now.below, c.args.on.now.vertices), omega (arith, face_turn _ _ _ false (was_open _ _ _ _ _ _ c.requires.r_value).face, c.args.on.now.opposites))

pub previous-requires : goal.previous-requires
previous-requires c = omega (arith, face_used _ _ _ (was_open _ _ _ _ _ _ c.requires.r_value).face, c.args.on.now.below, c.args.on.now.vertices)

pub write_side-requires : goal.write_side-requires
write_side-requires c =
    let k = was_open _ _ _ _ _ _ c.requires.r_value in
    rw (c.split_at_mut-before.ensures.front_len, c.previous.ensures.0) (left_inside _ _ _ _ _ (they_fit c.args.on.now) k.face _ k.count)

pub write_side-requires-2 : goal.write_side-requires-2
write_side-requires-2 c =
    let a = c.args in
    let s = c.split_at_mut-before in
    let k = was_open _ _ _ _ _ _ c.requires.r_value in
    rw (length-take-le (a.r + c.extra.result) s.result.1.now (omega (arith, c.requires.r_in_bounds, c.extra.ensures, s.ensures.back_len)))
    (right_inside _ _ _ _ _ (they_fit a.on.now) k.face (twice a.kind) a.r k.count' _ _ (omega (arith, c.extra.ensures)) c.right_from-o.ensures)

pub returns : goal.returns
returns c =
    let a = c.args in
    let s = c.split_at_mut-before in
    rw s.ensures.back
    (open_done _ _ _ _ _ _ _ _ _ _ (was_open _ _ _ _ _ _ c.requires.r_value) c.extra.ensures (they_fit a.on.now)
    (omega (arith, c.requires.r_in_bounds, c.extra.ensures)) _ (a.r + c.extra.result) _ _ _ c.right_from-o.ensures (omega arith) refl
    (c.write_side.ensures ∙ rw (s.ensures.front_len, c.previous.ensures.0))
    (c.write_side-2.ensures
    ∙ rw (length-take-le (a.r + c.extra.result) s.result.1.now (omega (arith, c.requires.r_in_bounds, c.extra.ensures, s.ensures.back_len)))))
