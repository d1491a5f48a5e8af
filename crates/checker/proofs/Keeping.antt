-- From tests that pass to slots that keep the rules, and back, with the tests before them passed. Assumes nothing.
use Prim.Native.Nat.{ℕ, zero, suc, ◌+◌, ◌-◌, ◌%◌, ◌≤◌, ◌<◌}
use mathlib.Core.Path.{◌≡◌, sym, subst, ◌∙◌}
use mathlib.Core.Logic.{◌≢◌, ◌⊎◌, inl, inr}
use mathlib.Core.Bool.{true}
use native.Mathlib.Omega.{arith}
use Rattle.corner.specs.Corner.{absent, next}
use Rattle.corner.proofs.Turns.{Third, first, second, last, third, next_first, next_second, next_last, next_below}
use Rattle.table.specs.Slots.{mark_at}
use Rattle.table.specs.Table.{Table, corner_room, vertex_room, vertex, opposite, corner, Live, LiveVertex, Shaped}
use Rattle.table.specs.Rules.{Fan, Mate}
use Rattle.fan.proofs.Fan.{Linked, linked, Left, Conn, conn_sym, conn_trans, conn_live, conn_vertex, fan_conn, conn_fan}
use Rattle.checker_kinds.specs.Kinds.{test_at, span, slot_of}
use Rattle.checker_kinds.specs.declared.Test.{Test}
use Rattle.checker_kinds.specs.declared.Test.TheVariants.{Counts, CornerMark, FaceMark, VertexMark, CornerVertex}
use Rattle.checker_kinds.specs.declared.Test.TheVariants.{FaceVertex, Opposite, VertexCorner, CornerFan, Finite}
use Rattle.checker_kinds.proofs.Places.{place}
use Rattle.checker_rules.specs.Tests.{holds, AllHold}
use Rattle.checker_rules.proofs.Walks.{Hit, near_hit, fan_near}
use Rattle.checker_rules.proofs.Rules.{At, holds_at, at_holds}
use Rattle.checker.specs.Blame.{Obeys, Slot}

-- ---- the three corners of a face, from its first one

data InThree (f i : ℕ) : Type 0 where
  at0 : i ≡ f → InThree f i
  at1 : i ≡ f + 1 → InThree f i
  at2 : i ≡ f + 2 → InThree f i

in_three : (i : ℕ) → InThree (i - i % 3) i
in_three i = go (third i)
  where
    go : Third i → InThree (i - i % 3) i
    go (first k) = at0 (omega arith)
    go (second k) = at1 (omega arith)
    go (last k) = at2 (omega arith)

on_three : (P : ℕ → Type 0) {f i : ℕ} → InThree f i → P f → P (f + 1) → P (f + 2) → P i
on_three P (at0 e) p q r = subst P (sym e) p
on_three P (at1 e) p q r = subst P (sym e) q
on_three P (at2 e) p q r = subst P (sym e) r

module _ (f : ℕ) (m : f % 3 ≡ 0) where
  turn0 : next f ≡ f + 1
  turn0 = next_first f m

  turn1 : next (f + 1) ≡ f + 2
  turn1 = omega (arith, next_second (f + 1) (omega arith))

  turn2 : next (f + 2) ≡ f
  turn2 = omega (arith, next_last (f + 2) (omega arith))

module _ (t : Table) where
  -- "a face's three marks agree"
  at_marks : (f : ℕ) → f % 3 ≡ 0 → At t FaceMark f → At t FaceMark (f + 1) → Obeys FaceMark t f
  unfolding At Obeys
  at_marks f m p q =
      let a : next f ≡ f + 1 = turn0 f m in
      let b : next (f + 1) ≡ f + 2 = turn1 f m in
      (cc, cc)

  marks_at : (f : ℕ) → f % 3 ≡ 0 → Obeys FaceMark t f → At t FaceMark f × At t FaceMark (f + 1) × At t FaceMark (f + 2)
  unfolding At Obeys
  marks_at f m k =
      let a : next f ≡ f + 1 = turn0 f m in
      let b : next (f + 1) ≡ f + 2 = turn1 f m in
      let d : next (f + 2) ≡ f = turn2 f m in
      (cc, cc, cc)

  -- "a live face's three differ", where a live corner's next one is live
  module _ (on : (c : ℕ) → Live t c → Live t (next c)) (f : ℕ) (m : f % 3 ≡ 0) where
    live1 : Live t f → Live t (f + 1)
    live1 l = subst (Live t) (turn0 f m) (on f l)

    live2 : Live t (f + 1) → Live t (f + 2)
    live2 l = subst (Live t) (turn1 f m) (on (f + 1) l)

    live0 : Live t (f + 2) → Live t f
    live0 l = subst (Live t) (turn2 f m) (on (f + 2) l)

    apart : (c d : ℕ) → next c ≡ d → vertex t c ≢ vertex t (next c) → vertex t c ≢ vertex t d
    apart c d e n = subst (λ (x : ℕ). vertex t c ≢ vertex t x) e n

    apart_next : (c d : ℕ) → next c ≡ d → vertex t c ≢ vertex t d → vertex t c ≢ vertex t (next c)
    apart_next c d e n = subst (λ (x : ℕ). vertex t c ≢ vertex t x) (sym e) n

    at_differ : At t FaceVertex f → At t FaceVertex (f + 1) → At t FaceVertex (f + 2) → Obeys FaceVertex t f
    unfolding At Obeys
    at_differ p q r =
        λ l. (
          apart f (f + 1) (turn0 f m) (p l),
          apart (f + 1) (f + 2) (turn1 f m) (q (live1 l)),
          apart (f + 2) f (turn2 f m) (r (live2 (live1 l))),
        )

    differ_at : Obeys FaceVertex t f → At t FaceVertex f × At t FaceVertex (f + 1) × At t FaceVertex (f + 2)
    unfolding At Obeys
    differ_at k = (
      λ l. apart_next f (f + 1) (turn0 f m) (k l).0,
      λ l. apart_next (f + 1) (f + 2) (turn1 f m) (k (live0 (live2 l))).1,
      λ l. apart_next (f + 2) f (turn2 f m) (k (live0 l)).2,
    )

  -- ---- with tests passed

  abbrev pub Before : ℕ → Type 0
  Before k = (l : ℕ) → l < k → AllHold (test_at l) t

  before : (j k : ℕ) → j ≤ k → Before k → Before j
  before j k u h l s = h l (omega arith)

  module _ (h : Before 3) where
    pub counts : (t.corners ≤ corner_room t) × (t.vertices ≤ vertex_room t) × (t.corners % 3 ≡ 0)
    unfolding test_at span At
    counts = holds_at t Counts 0 (h 0 (omega arith) 0 (omega arith))

    pub face_mark : (c : ℕ) → c < t.corners → mark_at t.corner_mark (next c) ≡ mark_at t.corner_mark c
    unfolding test_at span At
    face_mark c l = holds_at t FaceMark c (h 2 (omega arith) c l)

    live_next : (c : ℕ) → Live t c → Live t (next c)
    live_next c l = (next_below c t.corners counts.2 l.0, face_mark c l.0 ∙ l.1)

  module _ (S : Shaped t) (h : Before 8) where
    three : Before 3
    three = before 3 8 (omega arith) h

    pub corner_vertex_lem : (c : ℕ) → Live t c → LiveVertex t (vertex t c)
    unfolding test_at span At
    corner_vertex_lem c l = holds_at t CornerVertex c (h 4 (omega arith) c l.0) l

    pub face_vertex : (c : ℕ) → Live t c → vertex t c ≢ vertex t (next c)
    unfolding test_at span At
    face_vertex c l = holds_at t FaceVertex c (h 5 (omega arith) c l.0) l

    pub opposites : (c : ℕ) → Live t c → opposite t c ≢ absent → Mate (Live t) (opposite t) (vertex t) c (opposite t c)
    unfolding test_at span At
    opposites c l = holds_at t Opposite c (h 6 (omega arith) c l.0) l

    pub vertex_corner_lem : (v : ℕ) → LiveVertex t v → Live t (corner t v) × (vertex t (corner t v) ≡ v)
    unfolding test_at span At
    vertex_corner_lem v l = holds_at t VertexCorner v (h 7 (omega arith) v l.0) l

    small : (c : ℕ) → Live t c → c < absent
    small c l = omega (arith, l.0, (counts three).0, S.corner_most)

    L : Linked (Live t) (opposite t) (vertex t)
    L = linked (λ c l. omega (arith, small c l)) (live_next three) face_vertex opposites

    own : (c : ℕ) → Live t c → Live t (corner t (vertex t c))
    own c l = (vertex_corner_lem (vertex t c) (corner_vertex_lem c l)).0

    abbrev Reach : ℕ → Type 0
    Reach c = Conn (Left (Live t) (opposite t)) (corner t (vertex t c)) c

    -- a corner that hits the vertex's corner, or a smaller corner that is reached, is reached
    by_hit : (c : ℕ) → Live t c → ((d : ℕ) → d < c → Live t d → Reach d) → Hit t.corner_opposite (corner t (vertex t c)) c → Reach c
    by_hit c l ih k =
        let q : Conn (Left (Live t) (opposite t)) c k.at = fan_conn L l k.fan in
        go q k.which
      where
        go : Conn (Left (Live t) (opposite t)) c k.at → (k.at ≡ corner t (vertex t c)) ⊎ (k.at < c) → Reach c
        go q (inl e) = subst (λ (x : ℕ). Conn (Left (Live t) (opposite t)) x c) e (conn_sym q)
        go q (inr s) =
            let r : Reach k.at = ih k.at s (conn_live L l q) in
            conn_trans (subst (λ (v : ℕ). Conn (Left (Live t) (opposite t)) (corner t v) k.at) (conn_vertex L q) r) (conn_sym q)

    module _ (b : ℕ) (fans : (c : ℕ) → c < b → holds CornerFan t c ≡ true) where
      hit : (c : ℕ) → c < b → Live t c → Hit t.corner_opposite (corner t (vertex t c)) c
      unfolding At
      hit c s l =
          near_hit t.corner_opposite (corner t (vertex t c)) c (omega (arith, S.corner_opposite_room, S.corner_most))
          (λ e. omega (arith, small (corner t (vertex t c)) (own c l))) (small c l) t.corners
          (holds_at t CornerFan c (fans c s) l)

      reach : (n c : ℕ) → n ≤ b → c < n → Live t c → Reach c
      reach zero c u s l = absurd (omega arith)
      reach (suc n) c u s l = by_hit c l (λ d r m. reach n d (omega arith) (omega arith) m) (hit c (omega arith) l)

      pub fans_keep : (c : ℕ) → c < b → Live t c → Fan (opposite t) (corner t (vertex t c)) c
      fans_keep c s l = conn_fan L (reach b c (omega arith) s l)

    -- a corner that lies in its fan passes
    pub keep_fan : (c : ℕ) → (Live t c → Fan (opposite t) (corner t (vertex t c)) c) → holds CornerFan t c ≡ true
    unfolding At
    keep_fan c k =
        at_holds t CornerFan c
        (λ l. fan_near t.corner_opposite L t.corners (λ d m. m.0) (corner t (vertex t c)) c (own c l) l (k l))

  -- ---- the two laws for every kind

  pub keeps_below : Shaped t → (test : Test) → Before (place test) → (b : ℕ) → ((j : ℕ) → j < b → holds test t j ≡ true)
      → (j : ℕ) → j < slot_of test b → Slot test t j → Obeys test t j
  unfolding place slot_of Slot Obeys At
  keeps_below S Counts h b p j s u = holds_at t Counts j (p j s)
  keeps_below S CornerMark h b p j s u = holds_at t CornerMark j (p j s)
  keeps_below S FaceMark h b p j s u =
      at_marks j u.1 (holds_at t FaceMark j (p j (omega arith))) (holds_at t FaceMark (j + 1) (p (j + 1) (omega (arith, u.1))))
  keeps_below S VertexMark h b p j s u = holds_at t VertexMark j (p j s)
  keeps_below S CornerVertex h b p j s u = holds_at t CornerVertex j (p j s)
  keeps_below S FaceVertex h b p j s u =
      at_differ (live_next (before 3 5 (omega arith) h)) j u.1 (holds_at t FaceVertex j (p j (omega arith)))
      (holds_at t FaceVertex (j + 1) (p (j + 1) (omega (arith, u.1)))) (holds_at t FaceVertex (j + 2) (p (j + 2) (omega (arith, u.1))))
  keeps_below S Opposite h b p j s u = holds_at t Opposite j (p j s)
  keeps_below S VertexCorner h b p j s u = holds_at t VertexCorner j (p j s)
  keeps_below S CornerFan h b p j s u = fans_keep S h b p j s
  keeps_below S Finite h b p j s u = holds_at t Finite j (p j s)

  pub keeps_holds : Shaped t → (test : Test) → Before (place test) → (i : ℕ) → Obeys test t (slot_of test i) → holds test t i ≡ true
  unfolding place slot_of Obeys At
  keeps_holds S Counts h i k = at_holds t Counts i k
  keeps_holds S CornerMark h i k = at_holds t CornerMark i k
  keeps_holds S FaceMark h i k =
      let a = marks_at (i - i % 3) (omega arith) k in
      at_holds t FaceMark i (on_three (At t FaceMark) (in_three i) a.0 a.1 a.2)
  keeps_holds S VertexMark h i k = at_holds t VertexMark i k
  keeps_holds S CornerVertex h i k = at_holds t CornerVertex i k
  keeps_holds S FaceVertex h i k =
      let a = differ_at (live_next (before 3 5 (omega arith) h)) (i - i % 3) (omega arith) k in
      at_holds t FaceVertex i (on_three (At t FaceVertex) (in_three i) a.0 a.1 a.2)
  keeps_holds S Opposite h i k = at_holds t Opposite i k
  keeps_holds S VertexCorner h i k = at_holds t VertexCorner i k
  keeps_holds S CornerFan h i k = keep_fan S h i k
  keeps_holds S Finite h i k = at_holds t Finite i k

  -- the named slot is one of its kind, and every one of its kind is below the end
  pub slot_used : (test : Test) (i : ℕ) → i < span test t.vertices t.corners → Slot test t (slot_of test i)
  unfolding span slot_of Slot
  slot_used Counts i l = omega arith
  slot_used CornerMark i l = l
  slot_used FaceMark i l = (omega arith, omega arith)
  slot_used VertexMark i l = l
  slot_used CornerVertex i l = l
  slot_used FaceVertex i l = (omega arith, omega arith)
  slot_used Opposite i l = l
  slot_used VertexCorner i l = l
  slot_used CornerFan i l = l
  slot_used Finite i l = l

  pub slot_below : (test : Test) → Before (place test) → (j : ℕ) → Slot test t j → j < slot_of test (span test t.vertices t.corners)
  unfolding place span slot_of Slot test_at At
  slot_below Counts h j u = omega arith
  slot_below CornerMark h j u = u
  slot_below FaceMark h j u = let e : t.corners % 3 ≡ 0 = (holds_at t Counts 0 (h 0 (omega arith) 0 (omega arith))).2 in omega (arith, u.0)
  slot_below VertexMark h j u = u
  slot_below CornerVertex h j u = u
  slot_below FaceVertex h j u = let e : t.corners % 3 ≡ 0 = (holds_at t Counts 0 (h 0 (omega arith) 0 (omega arith))).2 in omega (arith, u.0)
  slot_below Opposite h j u = u
  slot_below VertexCorner h j u = u
  slot_below CornerFan h j u = u
  slot_below Finite h j u = u

  -- so where a test passes everywhere, all its slots keep the rule
  pub all_keep : Shaped t → (test : Test) → Before (place test) → AllHold test t → (j : ℕ) → Slot test t j → Obeys test t j
  all_keep S test h a j u =
      keeps_below S test h (span test t.vertices t.corners) (λ i l. a i l) j (slot_below test h j u) u
