-- `write_short` meets its contract. Assumes nothing.
use Rattle.traversal_short.proofs.Short.{short_start, short_more, short_closed}
use Rattle.traversal_visits.proofs.Steps.{face_used, face_turn}
use mathlib.Core.Path.{refl, sym, ◌∙◌}
use mathlib.Core.Bool.{false}
use lib.ListN.{length-set}
use native.Mathlib.Omega.{arith}
use Rattle.traversal_short.proofs.write_short.Goals as goal

pub previous-last-requires : goal.previous-last-requires
previous-last-requires c = c.requires.0

pub loop-i-init : goal.loop-i-init
loop-i-init c = (omega (arith, c.previous-last.ensures.1), short_start _ _ _ _ _ refl)

pub all_live-requires : goal.all_live-requires
all_live-requires c = omega (arith, c.loop-i.invariant.0)

pub shape_of-list-then-not-all_live : goal.shape_of-list-then-not-all_live
shape_of-list-then-not-all_live c = c.loop-i.invariant.1.done.size

pub returns-then-not-all_live : goal.returns-then-not-all_live
returns-then-not-all_live c = record { past = c.loop-i.invariant.1.past; ring = tt }

pub entry-requires : goal.entry-requires
entry-requires c =
    let a = c.args in
    (omega (arith, face_used a.on.now.cm.now a.on.now.used _ (sym (c.all_live.ensures _ refl) ∙ c.if-not-all_live.false)), a.on.now.below)

pub bounds-list-i : goal.bounds-list-i
bounds-list-i c = omega (arith, c.loop-i.invariant.1.done.size, c.requires.1, c.loop-i-test.true, c.used_slots-i-end.ensures)

pub onward-requires : goal.onward-requires
onward-requires c =
    let a = c.args in
    (refl, omega (arith, face_used a.on.now.cm.now a.on.now.used _ (sym (c.all_live.ensures _ refl) ∙ c.if-not-all_live.false)))

pub at_there-o-requires : goal.at_there-o-requires
at_there-o-requires c =
    let a = c.args in
    omega (arith, face_turn a.on.now.cm.now a.on.now.used _ false (sym (c.all_live.ensures _ refl) ∙ c.if-not-all_live.false), c.onward.ensures)

pub shape_of-list-then-o-last : goal.shape_of-list-then-o-last
shape_of-list-then-o-last c = simp length-set c.loop-i.invariant.1.done.size

pub returns-then-o-last : goal.returns-then-o-last
returns-then-o-last c =
    short_closed _ _ _ _ _ _ _ c.loop-i.invariant.1 _ (c.all_live.ensures _ refl) c.if-not-all_live.false (omega (arith, c.loop-i-test.true, c.used_slots-i-end.ensures))
    _ c.entry.ensures _ refl _ c.onward.ensures _ c.at_there-o.ensures _ c.previous-last.ensures.0 c.requires.1 c.if-o-last.true

pub loop-i-preserved : goal.loop-i-preserved
loop-i-preserved c = (
  omega arith,
  short_more _ _ _ _ _ _ _ c.loop-i.invariant.1 _ (c.all_live.ensures _ refl) c.if-not-all_live.false (omega (arith, c.loop-i-test.true, c.used_slots-i-end.ensures))
      _ c.entry.ensures _ refl _ c.onward.ensures _ c.at_there-o.ensures c.if-o-last.false,
)

pub shape_of-list : goal.shape_of-list
shape_of-list c = c.loop-i.invariant.1.done.size

pub returns : goal.returns
returns c = record { past = c.loop-i.invariant.1.past; ring = tt }
