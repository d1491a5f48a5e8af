-- What a side visits is as many crossings by opposites alone, all inside the lists. Assumes nothing.
use Prim.Native.Nat.{ℕ, zero, suc, ◌<◌, ◌≤◌}
use mathlib.Core.Path.{◌≡◌, refl, sym, ap}
use mathlib.Core.List.{List, [], ◌∷◌}
use mathlib.Core.Bool.{Bool, true, false, not, cond}
use native.Mathlib.Omega.{arith}
use lib.ListN.{length}
use Rattle.corner.specs.Corner.{absent, turn}
use Rattle.corner.proofs.Turns.{turn_twice, turn_back, not_turn_twice}
use Rattle.table.specs.Slots.{opposite_at}
use Rattle.traversal_visits.specs.Walk.{face_live, Swing, border, tangle, to, swing, stop, more, closes, on_swing, side}
use Rattle.traversal_lists.specs.Reached.{reached, Inside}
use Rattle.traversal_visits.specs.declared.Corners.{Corners}
use Rattle.traversal_visits.proofs.Steps.{Landed, swing_landed, face_used, face_turn}
use Rattle.traversal_visits.specs.declared.End.TheVariants.{AtTangle, AtStart}

-- the used corners have slots in three lists
pub record Fit (cv co cm : List ℕ) (used : ℕ) : Type 0 where
  pub below : length cv < absent
  pub vertices : used ≤ length cv
  pub opposites : used ≤ length co
  pub marks : used ≤ length cm

pub they_fit : (on : Corners) → Fit on.cv.now on.co.now on.cm.now on.used
they_fit on = record { below = on.below; vertices = on.vertices; opposites = on.opposites; marks = on.marks }

-- the corners of l are reached by crossing to o and on from there, all inside
pub record Made (left : Bool) (opp : List ℕ) (room o : ℕ) (l : List ℕ) : Type 0 where
  pub are : l ≡ reached left opp (length l) o
  pub inside : Inside left opp room (length l) o

module _ (left : Bool) (opp mark : List ℕ) (used room c₀ : ℕ) (fits : used ≤ length opp) (fit : used ≤ room) where
  made_none : (o : ℕ) → Made left opp room o []
  unfolding reached Inside
  made_none o = record { are = refl; inside = tt }

  made_more : (o : ℕ) → o < used → turn (not left) o < used → (l : List ℕ) → Made left opp room (opposite_at opp (turn (not left) o)) l
      → Made left opp room o (turn left o ∷ l)
  unfolding reached Inside
  made_more o h k l m =
      record {
        are = ap (λ (x : List ℕ). turn left o ∷ x) m.are;
        inside = (omega arith, omega arith, m.inside);
      }

  -- the visits of a side that goes on at c
  pub side_made : (n c : ℕ) → Made left opp room (opposite_at opp (turn left c)) (side left opp mark used c₀ n c).visits
  unfolding side
  side_made zero c = go (swing left opp mark used c)
    where
      go : (s : Swing) → Made left opp room (opposite_at opp (turn left c)) (on_swing left c₀ s (λ d. stop AtTangle)).visits
      go border = made_none _
      go tangle = made_none _
      go (to d) = stops (closes left c₀ d)
        where
          stops : (b : Bool) → Made left opp room (opposite_at opp (turn left c)) (cond b (stop AtStart) (stop AtTangle)).visits
          stops true = made_none _
          stops false = made_none _
  side_made (suc n) c = go (λ d. side_made n d) (swing left opp mark used c) refl
    where
      go : ((d : ℕ) → Made left opp room (opposite_at opp (turn left d)) (side left opp mark used c₀ n d).visits)
          → (s : Swing) → swing left opp mark used c ≡ s
          → Made left opp room (opposite_at opp (turn left c)) (on_swing left c₀ s (λ d. more d (side left opp mark used c₀ n d))).visits
      go ih border e = made_none _
      go ih tangle e = made_none _
      go ih (to d) e = goes (closes left c₀ d)
        where
          k : Landed left opp mark used c d
          k = swing_landed left opp mark used c d e

          on : Made left opp room (opposite_at opp (turn (not left) (opposite_at opp (turn left c)))) (side left opp mark used c₀ n (turn left (opposite_at opp (turn left c)))).visits
          on = rw (sym (turn_twice left (opposite_at opp (turn left c)))) (ih (turn left (opposite_at opp (turn left c))))

          goes : (b : Bool) → Made left opp room (opposite_at opp (turn left c)) (cond b (stop AtStart) (more d (side left opp mark used c₀ n d))).visits
          goes true = made_none _
          goes false = rw k.at (made_more (opposite_at opp (turn left c)) (face_used mark used _ k.face) (face_turn mark used _ (not left) k.face) _ on)

  -- the same with the corner c itself before them
  pub whole_made : (n c : ℕ) → face_live mark used c ≡ true
      → Made left opp room (turn (not left) c) (c ∷ (side left opp mark used c₀ n c).visits)
  whole_made n c h =
      let l : List ℕ = (side left opp mark used c₀ n c).visits in
      let on : Made left opp room (opposite_at opp (turn (not left) (turn (not left) c))) l = rw (not_turn_twice left c) (side_made n c) in
      let all : Made left opp room (turn (not left) c) (turn left (turn (not left) c) ∷ l) =
      made_more (turn (not left) c) (face_turn mark used c (not left) h) (rw (not_turn_twice left c) (face_turn mark used c left h)) l on in
      rw (turn_back left c) at all
