-- `by_two_walks` meets its contract. Assumes nothing.
use Rattle.traversal_visits.proofs.Counting.{was_tangled}
use Rattle.traversal_lists.proofs.Answers.{answer_tangled, answer_short, has_room}
use mathlib.Core.Path.{sym, ◌∙◌}
use Rattle.traversal_lists.proofs.by_two_walks.Goals as goal

pub returns-then-not-has_room : goal.returns-then-not-has_room
returns-then-not-has_room c = answer_short _ _ _ _ _ _ _ _ c.count_walk-w.ensures (sym c.has_room.ensures ∙ c.if-not-has_room.true) _ c.too_short.ensures

pub write_closed-requires : goal.write_closed-requires
write_closed-requires c = record {
  l_value = sym c.in-Closed.is ∙ c.count_walk-w.ensures;
  l_in_bounds = has_room _ _ _ _ c.has_room.ensures c.if-not-has_room.false _ c.in-Closed.is;
}

pub write_open-requires : goal.write_open-requires
write_open-requires c = record {
  r_value = sym c.in-Open.is ∙ c.count_walk-w.ensures;
  r_in_bounds = has_room _ _ _ _ c.has_room.ensures c.if-not-has_room.false _ c.in-Open.is;
}

pub returns-in-Tangled : goal.returns-in-Tangled
returns-in-Tangled c = answer_tangled _ _ _ _ _ _ _ (was_tangled _ _ _ _ (sym c.in-Tangled.is ∙ c.count_walk-w.ensures))
