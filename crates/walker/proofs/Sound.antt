-- On a well-formed table no move of a walker answers 15: every corner that it would step to is live. A refused move, on any table,
-- leaves it where it began. Assumes nothing.
use Prim.Native.Nat.{ℕ}
use mathlib.Core.Path.{◌≡◌, refl, sym, ap, ◌∙◌}
use mathlib.Core.Logic.{◌≢◌}
use mathlib.Core.List.{List}
use mathlib.Core.Bool.{Bool, true, false, cond, false≢true}
use native.Mathlib.Omega.{arith}
use native.Mathlib.Decide.{ℕ_discrete}
use borrow.Author.Tests.{ltb-true, eqb-true, eq-eqb, ne_eqb}
use lib.Dec.{ltb, eqb}
use lib.ListN.{length}
use Rattle.corner.specs.Corner.{absent, next, previous, turn}
use Rattle.table.specs.Slots.{mark_at, opposite_at}
use Rattle.table.specs.Table.{Table, Shaped, shaped, live, Live, opposite, vertex}
use Rattle.table.specs.Rules.{WellFormed}
use Rattle.table.proofs.Lives.{true_live}
use Rattle.fan.proofs.Fan.{Linked, face_previous}
use Rattle.fan.proofs.Tables.{table_linked}
use Rattle.walker.specs.Walker.{Moved, stays, arrives, standing, refusal, step_to, step_over, swing_over, swing_to, unless, to_next, to_previous, to_opposite, swung_left, swung_right}
use Rattle.walker.specs.Promises.{NeverTangled, StandsStill, SaysSo}

-- the refusals are none of them 15, and where there is none the corner is live
pub data Stands (t : Table) (c : ℕ) : Type 0 where
  well : refusal t c ≡ 0 → Live t c → Stands t c
  ill : refusal t c ≢ 0 → refusal t c ≢ 15 → Stands t c

pub stands : (t : Table) (c : ℕ) → Stands t c
unfolding refusal standing
stands t c = by_1 (shaped t) refl
  where
    by_10 : shaped t ≡ true → ltb c t.corners ≡ true → ltb c (length t.corner_mark) ≡ true → (b : Bool) → eqb (mark_at t.corner_mark c) 0 ≡ b → Stands t c
    by_10 h k m true e = well (rw (h, k, m, e)) (ltb-true _ _ k, eqb-true _ _ e)
    by_10 h k m false e = ill (rw (h, k, m, e) (λ z. absurd (omega arith))) (rw (h, k, m, e) (λ z. absurd (omega arith)))

    by_9' : shaped t ≡ true → ltb c t.corners ≡ true → (b : Bool) → ltb c (length t.corner_mark) ≡ b → Stands t c
    by_9' h k true e = by_10 h k e (eqb (mark_at t.corner_mark c) 0) refl
    by_9' h k false e = ill (rw (h, k, e) (λ z. absurd (omega arith))) (rw (h, k, e) (λ z. absurd (omega arith)))

    by_9 : shaped t ≡ true → (b : Bool) → ltb c t.corners ≡ b → Stands t c
    by_9 h true e = by_9' h e (ltb c (length t.corner_mark)) refl
    by_9 h false e = ill (rw (h, e) (λ z. absurd (omega arith))) (rw (h, e) (λ z. absurd (omega arith)))

    by_1 : (b : Bool) → shaped t ≡ b → Stands t c
    by_1 true e = by_9 e (ltb c t.corners) refl
    by_1 false e = ill (rw e (λ z. absurd (omega arith))) (rw e (λ z. absurd (omega arith)))

module _ (t : Table) (S : Shaped t) (W : WellFormed t) (c : ℕ) where
  L : Linked (Live t) (opposite t) (vertex t)
  L = table_linked t S W

  turned : (left : Bool) (d : ℕ) → Live t d → Live t (turn left d)
  turned true d h = L.face d h
  turned false d h = face_previous L d h

  calm : (m : Moved) → (Live t c → m.step.answer ≢ 15) → (unless t c m).step.answer ≢ 15
  unfolding unless
  calm m k e = go (stands t c)
    where
      go : Stands t c → ⊥
      go (well z l) = k l (rw z at e)
      go (ill z n) = n (rw (ne_eqb (refusal t c) 0 z) at e)

  step_calm : (d : ℕ) → Live t d → (step_to t.corner_mark t.corners c d).step.answer ≢ 15
  unfolding step_to
  step_calm d h = rw (true_live t.corner_mark t.corners d h) (λ z. absurd (omega arith))

  over_calm : Live t c → (step_over t.corner_opposite t.corner_mark t.corners c).step.answer ≢ 15
  unfolding step_over
  over_calm h = go (ℕ_discrete (opposite t c) absent)
    where
      go : Dec (opposite t c ≡ absent)
          → (cond (eqb (opposite t c) absent) (stays 0 c) (step_to t.corner_mark t.corners c (opposite t c))).step.answer ≢ 15
      go (yes e) = rw (eq-eqb _ _ e) (λ z. absurd (omega arith))
      go (no e) = rw (ne_eqb _ _ e) (step_calm (opposite t c) (L.over c h e))

  swing_calm : (left : Bool) → Live t c → (swing_to left t.corner_opposite t.corner_mark t.corners c).step.answer ≢ 15
  unfolding swing_to
  swing_calm left h =
      rw (true_live t.corner_mark t.corners (turn left c) (turned left c h)) (go (ℕ_discrete (opposite t (turn left c)) absent))
    where
      go : Dec (opposite t (turn left c) ≡ absent)
          → (swing_over left t.corner_mark t.corners c (opposite t (turn left c))).step.answer ≢ 15
      go (yes e) = rw (eq-eqb _ _ e) (λ z. absurd (omega arith))
      go (no e) =
          let o : Live t (opposite t (turn left c)) = L.over (turn left c) (turned left c h) e in
          rw (ne_eqb _ _ e, true_live t.corner_mark t.corners (opposite t (turn left c)) o)
          (step_calm (turn left (opposite t (turn left c))) (turned left (opposite t (turn left c)) o))

pub next_never_15 : NeverTangled to_next
next_never_15 t S W c = calm t S W c _ (λ h. step_calm t S W c (next c) (turned t S W c true c h))

pub previous_never_15 : NeverTangled to_previous
previous_never_15 t S W c = calm t S W c _ (λ h. step_calm t S W c (previous c) (turned t S W c false c h))

pub opposite_never_15 : NeverTangled to_opposite
opposite_never_15 t S W c = calm t S W c _ (over_calm t S W c)

pub left_never_15 : NeverTangled swung_left
left_never_15 t S W c = calm t S W c _ (swing_calm t S W c true)

pub right_never_15 : NeverTangled swung_right
right_never_15 t S W c = calm t S W c _ (swing_calm t S W c false)

-- ---- a move either stays, with an answer, or arrives

data Ended (c : ℕ) (m : Moved) : Type 0 where
  stayed : (a : ℕ) → m ≡ stays a c → Ended c m
  arrived : (d : ℕ) → m ≡ arrives d → Ended c m

module _ (c : ℕ) where
  either : (b : Bool) (m l : Moved) → Ended c m → Ended c l → Ended c (cond b m l)
  either true m l p q = p
  either false m l p q = q

  step_ended : (mark : List ℕ) (n d : ℕ) → Ended c (step_to mark n c d)
  unfolding step_to
  step_ended mark n d = either (live mark n d) _ _ (arrived d refl) (stayed 15 refl)

  over_ended : (opp mark : List ℕ) (n : ℕ) → Ended c (step_over opp mark n c)
  unfolding step_over
  over_ended opp mark n = either (eqb (opposite_at opp c) absent) _ _ (stayed 0 refl) (step_ended mark n (opposite_at opp c))

  swing_ended : (left : Bool) (opp mark : List ℕ) (n : ℕ) → Ended c (swing_to left opp mark n c)
  unfolding swing_to
  swing_ended left opp mark n =
      let o : ℕ = opposite_at opp (turn left c) in
      either (live mark n (turn left c)) _ _
      (either (eqb o absent) _ _ (stayed 0 refl) (either (live mark n o) _ _ (step_ended mark n (turn left o)) (stayed 15 refl)))
      (stayed 15 refl)

  unless_ended : (t : Table) (m : Moved) → Ended c m → Ended c (unless t c m)
  unfolding unless
  unless_ended t m e = either (eqb (refusal t c) 0) _ _ e (stayed (refusal t c) refl)

  still : (m : Moved) → Ended c m → m.step.answer ≢ 0 → (m.corner.0 ≡ c) × (m.step.moved ≡ false)
  still m (stayed a e) n = (ap (λ (x : Moved). x.corner.0) e, ap (λ (x : Moved). x.step.moved) e)
  still m (arrived d e) n = absurd (n (ap (λ (x : Moved). x.step.answer) e))

  unmoved : (m : Moved) → Ended c m → m.step.moved ≡ false → m.corner.0 ≡ c
  unmoved m (stayed a e) n = ap (λ (x : Moved). x.corner.0) e
  unmoved m (arrived d e) n = absurd (false≢true (sym n ∙ ap (λ (x : Moved). x.step.moved) e))

  ended_next : (t : Table) → Ended c (to_next t c)
  ended_next t = unless_ended t _ (step_ended t.corner_mark t.corners (next c))

  ended_previous : (t : Table) → Ended c (to_previous t c)
  ended_previous t = unless_ended t _ (step_ended t.corner_mark t.corners (previous c))

  ended_opposite : (t : Table) → Ended c (to_opposite t c)
  ended_opposite t = unless_ended t _ (over_ended t.corner_opposite t.corner_mark t.corners)

  ended_swing : (left : Bool) (t : Table) → Ended c (unless t c (swing_to left t.corner_opposite t.corner_mark t.corners c))
  ended_swing left t = unless_ended t _ (swing_ended left t.corner_opposite t.corner_mark t.corners)

pub next_stands_still : StandsStill to_next
next_stands_still t c = still c _ (ended_next c t)

pub next_says_so : SaysSo to_next
next_says_so t c = unmoved c _ (ended_next c t)

pub previous_stands_still : StandsStill to_previous
previous_stands_still t c = still c _ (ended_previous c t)

pub previous_says_so : SaysSo to_previous
previous_says_so t c = unmoved c _ (ended_previous c t)

pub opposite_stands_still : StandsStill to_opposite
opposite_stands_still t c = still c _ (ended_opposite c t)

pub opposite_says_so : SaysSo to_opposite
opposite_says_so t c = unmoved c _ (ended_opposite c t)

pub left_stands_still : StandsStill swung_left
left_stands_still t c = still c _ (ended_swing c true t)

pub left_says_so : SaysSo swung_left
left_says_so t c = unmoved c _ (ended_swing c true t)

pub right_stands_still : StandsStill swung_right
right_stands_still t c = still c _ (ended_swing c false t)

pub right_says_so : SaysSo swung_right
right_says_so t c = unmoved c _ (ended_swing c false t)
