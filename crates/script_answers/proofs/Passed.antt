-- A command that answers 0 has passed its checks. This is the one place that takes a chain of checks apart. Assumes nothing.
use Prim.Native.Nat.{ℕ, ◌+◌, ◌/◌, ◌<◌, ◌≤◌}
use mathlib.Core.Path.{◌≡◌, refl}
use mathlib.Core.Logic.{◌≢◌}
use mathlib.Core.Bool.{Bool, true, false, not}
use native.Mathlib.Omega.{arith}
use borrow.Author.Tests.{eqb-true, eqb-false, ltb-true, ltb-false, not-false}
use lib.Dec.{eqb, ltb}
use Rattle.corner.specs.Corner.{absent, first_corner}
use Rattle.vertex.specs.declared.Point.{Point}
use Rattle.vertex.specs.Point.{finite_point}
use Rattle.table.specs.Slots.{mark_at}
use Rattle.table.specs.Table.{Table, corner_room, vertex_room, vertex, opposite, Live}
use Rattle.edge_collapse.specs.EdgeCollapse.{affects_boundary, unsafe}
use Rattle.script_command.specs.Checks.{targeted, room_for, corners_for}
use Rattle.script_command.proofs.Chain.{first_left, first_right, when_false}
use Rattle.script_answers.specs.Answers.{corner_target, face_target, not_finite, no_room, no_opposite, same_wings}
use Rattle.script_answers.specs.Answers.{collapse_answer, flip_answer, split_edge_answer, split_face_answer}
use Rattle.script_answers.specs.Passed.{EndFits, CollapsePassed, FlipPassed, SplitEdgePassed, SplitFacePassed}

-- ---- each check, passed

target_passed : (used : Bool) (m : ℕ) → targeted used m ≡ 0 → (used ≡ true) × (m ≡ 0)
unfolding targeted
target_passed true m e = (refl, eqb-true m 0 (not-false _ (when_false (not (eqb m 0)) 10 (omega arith) e)))
target_passed false m e = absurd (omega (arith, e))

pub corner_live_lem : (t : Table) (c : ℕ) → corner_target t c ≡ 0 → Live t c
corner_live_lem t c e = let p = target_passed (ltb c t.corners) (mark_at t.corner_mark c) e in (ltb-true _ _ p.0, p.1)

face_live_lem : (t : Table) (f : ℕ) → face_target t f ≡ 0 → Live t (first_corner f)
face_live_lem t f e =
    let p = target_passed (ltb f (t.corners / 3)) (mark_at t.corner_mark (first_corner f)) e in
    let l : f < t.corners / 3 = ltb-true _ _ p.0 in
    (omega arith, p.1)

finite_passed : (p : Point) → not_finite p ≡ 0 → finite_point p ≡ true
finite_passed p e = not-false _ (when_false (not (finite_point p)) 4 (omega arith) e)

room_passed : (t : Table) (n : ℕ) → no_room t n ≡ 0 → EndFits t n
unfolding room_for
room_passed t n e =
    let v : t.vertices + 1 ≤ vertex_room t = ltb-false _ _ (when_false (ltb (vertex_room t) (t.vertices + 1)) 5 (omega arith) (first_left _ _ e)) in
    record {
      vertices = omega arith;
      corners = ltb-false _ _ (when_false (ltb (corner_room t) (t.corners + n)) 6 (omega arith) (first_right _ _ e));
    }

pub opposite_there : (t : Table) (c : ℕ) → no_opposite t c ≡ 0 → opposite t c ≢ absent
opposite_there t c e = eqb-false _ _ (when_false (eqb (opposite t c) absent) 11 (omega arith) e)

wings_apart : (t : Table) (c : ℕ) → same_wings t c ≡ 0 → vertex t c ≢ vertex t (opposite t c)
wings_apart t c e = eqb-false _ _ (when_false (eqb (vertex t c) (vertex t (opposite t c))) 12 (omega arith) e)

-- ---- each kind, passed

module _ (t : Table) where
  pub collapse_passed : (c : ℕ) (p : Point) → collapse_answer t c p ≡ 0 → CollapsePassed t c p
  unfolding collapse_answer
  collapse_passed c p e =
      let e1 = first_right _ _ e in
      let e2 = first_right _ _ e1 in
      let e3 = first_right _ _ e2 in
      record {
        lives = corner_live_lem t c (first_left _ _ e);
        finite = finite_passed p (first_left _ _ e1);
        inside = when_false (affects_boundary t c) 11 (omega arith) (first_left _ _ e2);
        wings = wings_apart t c (first_left _ _ e3);
        safe = when_false (unsafe t c) 13 (omega arith) (first_right _ _ e3);
      }

  pub flip_passed : (c : ℕ) → flip_answer t c ≡ 0 → FlipPassed t c
  unfolding flip_answer
  flip_passed c e =
      let e1 = first_right _ _ e in
      record {
        lives = corner_live_lem t c (first_left _ _ e);
        inner = opposite_there t c (first_left _ _ e1);
        wings = wings_apart t c (first_right _ _ e1);
      }

  pub split_edge_passed : (c : ℕ) (p : Point) → split_edge_answer t c p ≡ 0 → SplitEdgePassed t c p
  unfolding split_edge_answer
  split_edge_passed c p e =
      let e1 = first_right _ _ e in
      record {
        lives = corner_live_lem t c (first_left _ _ e);
        finite = finite_passed p (first_left _ _ e1);
        room = room_passed t (corners_for (opposite t c)) (first_right _ _ e1);
      }

  pub split_face_passed : (f : ℕ) (p : Point) → split_face_answer t f p ≡ 0 → SplitFacePassed t f p
  unfolding split_face_answer
  split_face_passed f p e =
      let e1 = first_right _ _ e in
      record {
        lives = face_live_lem t f (first_left _ _ e);
        finite = finite_passed p (first_left _ _ e1);
        room = room_passed t 6 (first_right _ _ e1);
      }
