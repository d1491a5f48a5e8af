-- `count_walk` meets its contract. Assumes nothing.
use Prim.Native.Nat.{◌-◌}
use mathlib.Core.Bool.{true}
use Rattle.traversal_visits.proofs.Counting.{counted_dead, counted_tangle, counted_closed, counted_other, counted_open}
use Rattle.traversal_visits.proofs.Steps.{face_used, side_bound}
use mathlib.Core.Path.{◌≡◌, refl, sym, ◌∙◌}
use native.Mathlib.Omega.{arith}
use Rattle.traversal_visits.proofs.count_walk.Goals as goal

pub returns-then-not-all_live : goal.returns-then-not-all_live
returns-then-not-all_live c = counted_dead _ _ _ _ _ (c.all_live.ensures _ refl) c.if-not-all_live.true

pub count_side-l-requires : goal.count_side-l-requires
count_side-l-requires c =
    let f = sym (c.all_live.ensures _ refl) ∙ c.if-not-all_live.false in
    record { there = c.requires; begun = (omega (arith, face_used _ _ _ f), f) }

pub overflow_sub-used : goal.overflow_sub-used
overflow_sub-used c =
    let a = c.args in
    omega (arith, c.count_side-l.ensures.0, side_bound true a.co.now a.cm.now a.used a.start.0 (a.used - 1) a.start.0)

pub count_side-r-requires : goal.count_side-r-requires
count_side-r-requires c =
    let a = c.args in
    let f = sym (c.all_live.ensures _ refl) ∙ c.if-not-all_live.false in
    record {
      there = c.requires;
      begun = (omega (arith, face_used _ _ _ f, c.count_side-l.ensures.0, side_bound true a.co.now a.cm.now a.used a.start.0 (a.used - 1) a.start.0), f);
    }

pub returns-in-AtTangle : goal.returns-in-AtTangle
returns-in-AtTangle c = counted_tangle _ _ _ _ _ (c.all_live.ensures _ refl) c.if-not-all_live.false _ _ c.count_side-l.ensures c.in-AtTangle.is

pub returns-in-AtStart : goal.returns-in-AtStart
returns-in-AtStart c = counted_closed _ _ _ _ _ (c.all_live.ensures _ refl) c.if-not-all_live.false _ _ c.count_side-l.ensures c.in-AtStart.is

pub returns-in-AtBorder-end : goal.returns-in-AtBorder-end
returns-in-AtBorder-end c =
    let a = c.args in
    let less : a.used - 1 - c.count_side-l.result.visits ≡ a.used - c.count_side-l.result.visits - 1 = omega arith in
    counted_open _ _ _ _ _ (c.all_live.ensures _ refl) c.if-not-all_live.false _ _ c.count_side-l.ensures c.in-AtBorder.is _ _
    (rw less c.count_side-r.ensures) c.in-AtBorder-end.is

pub returns-in_default : goal.returns-in_default
returns-in_default c =
    let a = c.args in
    let less : a.used - 1 - c.count_side-l.result.visits ≡ a.used - c.count_side-l.result.visits - 1 = omega arith in
    counted_other _ _ _ _ _ (c.all_live.ensures _ refl) c.if-not-all_live.false _ _ c.count_side-l.ensures c.in-AtBorder.is c.count_side-r.result.visits c.count_side-r.result.end
    (rw less c.count_side-r.ensures) c.in_default.not-AtBorder
