-- `count_side` meets its contract. Assumes nothing.
use Rattle.traversal_visits.proofs.Steps.{at_start, turn_forth, face_used, face_turn, over_end, over_inside, over_closed, over_out, over_more}
use Rattle.traversal_visits.proofs.Counting.{from_slot, crossing_start, crossing_stop, crossing_more}
use Rattle.traversal_visits.specs.Walk.{last_crossed}
use Rattle.corner.specs.Corner.{turn}
use mathlib.Core.Path.{refl, sym, ap, ◌∙◌}
use mathlib.Core.Bool.{not}
use native.Mathlib.Omega.{arith}
use Rattle.traversal_visits.proofs.count_side.Goals as goal

pub last_crossed-last-requires : goal.last_crossed-last-requires
last_crossed-last-requires c = omega (arith, face_used _ _ _ c.requires.begun.1)

pub loop-visits-init : goal.loop-visits-init
loop-visits-init c =
    let a = c.args in (
      omega (arith, face_turn _ _ _ a.left c.requires.begun.1, c.turn_index-via.ensures),
      c.last_crossed-last.ensures ∙ sym (ap (last_crossed a.left) (ap (turn (not a.left)) c.turn_index-via.ensures ∙ turn_forth a.left _)),
      crossing_start _ _ _ c.requires.begun.0 refl,
    )

pub at_there-o-requires : goal.at_there-o-requires
at_there-o-requires c = c.loop-visits.invariant.0

pub returns-then-not-all_live : goal.returns-then-not-all_live
returns-then-not-all_live c =
    at_start _ _ _ _ _ _ _ c.turn_index-via.ensures _ _
    (crossing_stop _ _ _ _ c.loop-visits.invariant.2 c.loop-visits-test.true _
    (over_end _ _ _ _ _ c.loop-visits.via _ c.at_there-o.ensures _ (c.all_live.ensures _ refl) c.if-not-all_live.true _ c.end_at.ensures _))

pub returns-then-o-last : goal.returns-then-o-last
returns-then-o-last c =
    at_start _ _ _ _ _ _ _ c.turn_index-via.ensures _ _
    (crossing_stop _ _ _ _ c.loop-visits.invariant.2 c.loop-visits-test.true _
    (over_closed _ _ _ _ _ c.loop-visits.via _ c.at_there-o.ensures _ (c.all_live.ensures _ refl) c.if-not-all_live.false (omega arith) _
    c.loop-visits.invariant.1 _ c.if-o-last.true))

pub onward-via-requires : goal.onward-via-requires
onward-via-requires c =
    let a = c.args in (refl, omega (arith, face_used a.cm.now a.used _ (sym (c.all_live.ensures _ refl) ∙ c.if-not-all_live.false)))

pub loop-visits-preserved : goal.loop-visits-preserved
loop-visits-preserved c =
    let a = c.args in
    let k = c.loop-visits in
    let start = turn (not a.left) c.turn_index-via.result in (
      omega (arith, over_inside a.left a.co.now a.cm.now a.used 0 k.via _ c.at_there-o.ensures _ (c.all_live.ensures _ refl) c.if-not-all_live.false, c.onward-via.ensures),
      k.invariant.1,
      crossing_more _ _ _ _ k.invariant.2 c.loop-visits-test.true
          (from_slot a.left a.co.now a.cm.now a.used start c.onward-via.result)
          _
          (λ room some. over_more _ _ _ _ _ k.via _ c.at_there-o.ensures _ (c.all_live.ensures _ refl) c.if-not-all_live.false (omega arith) _ k.invariant.1 room c.if-o-last.false some _ c.onward-via.ensures)
          (λ room none. over_out _ _ _ _ _ k.via _ c.at_there-o.ensures _ (c.all_live.ensures _ refl) c.if-not-all_live.false (omega arith) _ k.invariant.1 room c.if-o-last.false none),
    )

pub returns : goal.returns
returns c = at_start _ _ _ _ _ _ _ c.turn_index-via.ensures _ _ (c.loop-visits.invariant.2.out (omega (arith, c.loop-visits.auto.visits-end, c.loop-visits-test.false)))
