-- The answers are the same in a larger room, but for 5 and 6. Assumes nothing.
use Prim.Native.Nat.{ℕ, ◌+◌, ◌/◌, ◌≤◌, ◌<◌}
use mathlib.Core.Path.{◌≡◌, refl, ap, ◌∙◌}
use mathlib.Core.Logic.{◌≢◌}
use mathlib.Core.Bool.{Bool, true, false, cond}
use native.Mathlib.Omega.{arith}
use borrow.Author.Tests.{le-ltb, eq-eqb, ltb-true, ltb-false}
use lib.Dec.{eqb, ltb}
use Rattle.corner.specs.Corner.{absent, first_corner}
use Rattle.vertex.specs.declared.Point.{Point}
use Rattle.table.specs.Table.{Table, corner_room, vertex_room, opposite, Live, Shaped}
use Rattle.table.specs.Rules.{WellFormed}
use Rattle.edge_collapse.specs.EdgeCollapse.{affects_boundary}
use Rattle.edge_collapse.proofs.Paper.{inner}
use Rattle.script_command.specs.declared.Edit.{Edit}
use Rattle.script_command.specs.declared.Edit.TheVariants.{Collapse, Flip, SplitEdge, SplitFace, Unknown}
use Rattle.script_command.specs.Checks.{first, when, targeted, room_for}
use Rattle.script_answers.specs.Answers.{corner_target, face_target, not_finite, no_room, no_opposite, same_wings, collapse_answer, flip_answer, split_edge_answer, split_face_answer, answer}
use Rattle.script_command.proofs.Chain.{first_same, when_false}
use Rattle.script_answers.proofs.Passed.{corner_live_lem, opposite_there}
use Rattle.promises.specs.Rooms.{Roomier}
use Rattle.promises.proofs.SameReads.{same_opposite, same_vertex, same_mark, affects_same, unsafe_same}

-- a room that is enough is so where there is more; else the answer is 5 or 6
room_more : (n r r' c s s' k : ℕ) → r ≤ r' → s ≤ s' → room_for n r c s k ≢ 5 → room_for n r c s k ≢ 6 → room_for n r c s k ≡ room_for n r' c s' k
unfolding room_for first
room_more n r r' c s s' k p q five six = go (ltb r (n + 1)) refl (ltb s (c + k)) refl
  where
    go : (a : Bool) → ltb r (n + 1) ≡ a → (b : Bool) → ltb s (c + k) ≡ b → room_for n r c s k ≡ room_for n r' c s' k
    go false x false y =
        rw (
          x,
          y,
          le-ltb r' (n + 1) (omega (arith, ltb-false r (n + 1) x)),
          le-ltb s' (c + k) (omega (arith, ltb-false s (c + k) y)),
        )
    go false x true y = absurd (six (rw (x, y)))
    go true x b y = absurd (five (rw x))

target_by : (used : Bool) (m k : ℕ) → (used ≡ true → m ≡ k) → targeted used m ≡ targeted used k
unfolding targeted
target_by true m k h = rw (h refl)
target_by false m k h = refl

pub first_zero : (a b : ℕ) → a ≡ 0 → first a b ≡ b
unfolding first
first_zero a b e = rw (eq-eqb a 0 e)

-- two chains that end in a check for room
roomed : (a x f r q : ℕ) → a ≡ x → first a (first f r) ≢ 5 → first a (first f r) ≢ 6 → (a ≡ 0 → r ≢ 5 → r ≢ 6 → r ≡ q)
    → first a (first f r) ≡ first x (first f q)
roomed a x f r q e five six h =
    first_same a _ x _ e
    (λ z.
    first_same f _ f _ refl
    (λ g. h z (λ k. five (first_zero a _ z ∙ first_zero f _ g ∙ k)) (λ k. six (first_zero a _ z ∙ first_zero f _ g ∙ k))))

-- the corners that an edge split needs
abbrev needs : ℕ → ℕ
needs o = cond (eqb o absent) 3 6

module _ {t u : Table} (S : Roomier t u) where
  corner_target_same : (c : ℕ) → corner_target t c ≡ corner_target u c
  corner_target_same c = rw (← S.corners) (target_by (ltb c t.corners) _ _ (λ e. same_mark S c (ltb-true _ _ e)))

  face_target_same : (f : ℕ) → face_target t f ≡ face_target u f
  face_target_same f =
      rw (← S.corners)
      (target_by (ltb f (t.corners / 3)) _ _
      (λ e. let l : f < t.corners / 3 = ltb-true _ _ e in same_mark S (first_corner f) (omega arith)))

  no_room_same : (k : ℕ) → no_room t k ≢ 5 → no_room t k ≢ 6 → no_room t k ≡ no_room u k
  no_room_same k five six =
      rw (← S.vertices, ← S.corners)
      (room_more t.vertices (vertex_room t) (vertex_room u) t.corners (corner_room t) (corner_room u) k S.vertex_mark.larger S.corner_mark.larger
      five six)

  face_answer_same : (f : ℕ) (p : Point) → split_face_answer t f p ≢ 5 → split_face_answer t f p ≢ 6 → split_face_answer t f p ≡ split_face_answer u f p
  unfolding split_face_answer
  face_answer_same f p five six =
      roomed (face_target t f) (face_target u f) (not_finite p) (no_room t 6) (no_room u 6) (face_target_same f) five six (λ z. no_room_same 6)

  edge_answer_same : (c : ℕ) (p : Point) → split_edge_answer t c p ≢ 5 → split_edge_answer t c p ≢ 6 → split_edge_answer t c p ≡ split_edge_answer u c p
  unfolding split_edge_answer
  edge_answer_same c p five six =
      roomed (corner_target t c) (corner_target u c) (not_finite p) (no_room t (needs (opposite t c))) (no_room u (needs (opposite u c)))
      (corner_target_same c) five six
      (λ z v w.
      no_room_same (needs (opposite t c)) v w ∙ ap (λ (o : ℕ). no_room u (needs o)) (same_opposite S c (corner_live_lem t c z).0))

  -- the rest of a flip and of a collapse needs a well-formed table
  module _ (Z : Shaped t) (W : WellFormed t) (c : ℕ) where
    wings_same : Live t c → opposite t c ≢ absent → same_wings t c ≡ same_wings u c
    wings_same h n =
        rw (← (same_opposite S c h.0), ← (same_vertex S c h.0), ← (same_vertex S (opposite t c) (W.mate c h n).over.0))

    flip_answer_same : flip_answer t c ≡ flip_answer u c
    unfolding flip_answer
    flip_answer_same =
        first_same (corner_target t c) _ (corner_target u c) _ (corner_target_same c)
        (λ z.
        let h : Live t c = corner_live_lem t c z in
        first_same (no_opposite t c) _ (no_opposite u c) _ (ap (λ (o : ℕ). when (eqb o absent) 11) (same_opposite S c h.0))
        (λ n. wings_same h (opposite_there t c n)))

    collapse_answer_same : (p : Point) → collapse_answer t c p ≡ collapse_answer u c p
    unfolding collapse_answer
    collapse_answer_same p =
        first_same (corner_target t c) _ (corner_target u c) _ (corner_target_same c)
        (λ z.
        let h : Live t c = corner_live_lem t c z in
        first_same (not_finite p) _ (not_finite p) _ refl
        (λ f.
        first_same (when (affects_boundary t c) 11) _ (when (affects_boundary u c) 11) _ (ap (λ (b : Bool). when b 11) (affects_same S Z W c h))
        (λ b.
        first_same (same_wings t c) _ (same_wings u c) _
        (wings_same h (inner t Z W c h (when_false (affects_boundary t c) 11 (omega arith) b)))
        (λ w. ap (λ (b : Bool). when b 13) (unsafe_same S Z W c h)))))

  -- an answer of the smaller table other than 5 and 6 is the larger one's too
  pub answer_same : Shaped t → WellFormed t → (e : Edit) → answer t e ≢ 5 → answer t e ≢ 6 → answer t e ≡ answer u e
  unfolding answer
  answer_same Z W (Collapse c p) five six = collapse_answer_same Z W c.0 p
  answer_same Z W (Flip c) five six = flip_answer_same Z W c.0
  answer_same Z W (SplitEdge c p) five six = edge_answer_same c.0 p five six
  answer_same Z W (SplitFace f p) five six = face_answer_same f.0 p five six
  answer_same Z W Unknown five six = refl
