-- Each test read as its rule, and back: a slot passes its test exactly if it keeps the rule. Assumes nothing.
use Prim.Native.Nat.{ℕ, ◌%◌, ◌≤◌}
use mathlib.Core.Path.{◌≡◌}
use mathlib.Core.Logic.{◌≢◌}
use mathlib.Core.Bool.{true, ◌&&◌, not}
use borrow.Author.Tests.{leb-true, le-leb, eqb-true, eq-eqb}
use lib.Dec.{leb, eqb}
use Rattle.std.proofs.lemmas.Bool.{and_from, and_parts}
use Rattle.table.proofs.Words.{implies_intro, implies_elim, not_eqb, eqb_not}
use Rattle.corner.specs.Corner.{absent, next, previous}
use Rattle.vertex.specs.Point.{finite_point}
use Rattle.table.specs.Slots.{mark_at}
use Rattle.table.specs.Table.{Table, corner_room, vertex_room, vertex, opposite, corner, point, live, Live, LiveVertex}
use Rattle.table.specs.Rules.{Mate}
use Rattle.table.proofs.Lives.{live_true, true_live}
use Rattle.checker_rules.specs.Near.{near}
use Rattle.checker_rules.specs.Tests.{counts_test, mark_test, face_test, vertex_test, differ_test, back_test, mates_test, opposite_test}
use Rattle.checker_rules.specs.Tests.{corner_test, fan_test, point_test, holds}
use Rattle.checker_kinds.specs.declared.Test.{Test}
use Rattle.checker_kinds.specs.declared.Test.TheVariants.{Counts, CornerMark, FaceMark, VertexMark, CornerVertex}
use Rattle.checker_kinds.specs.declared.Test.TheVariants.{FaceVertex, Opposite, VertexCorner, CornerFan, Finite}

module _ (t : Table) where
  -- What a test says of the index that it is given: a corner and the next one, where the rule speaks of a face; the walks, for a fan.
  unfoldable pub At : Test → ℕ → Type 0
  At Counts i = (t.corners ≤ corner_room t) × (t.vertices ≤ vertex_room t) × (t.corners % 3 ≡ 0)
  At CornerMark c = mark_at t.corner_mark c ≤ 1
  At FaceMark c = mark_at t.corner_mark (next c) ≡ mark_at t.corner_mark c
  At VertexMark v = mark_at t.vertex_mark v ≤ 1
  At CornerVertex c = Live t c → LiveVertex t (vertex t c)
  At FaceVertex c = Live t c → vertex t c ≢ vertex t (next c)
  At Opposite c = Live t c → opposite t c ≢ absent → Mate (Live t) (opposite t) (vertex t) c (opposite t c)
  At VertexCorner v = LiveVertex t v → Live t (corner t v) × (vertex t (corner t v) ≡ v)
  At CornerFan c = Live t c → near t.corner_opposite (corner t (vertex t c)) c t.corners c c ≡ true
  At Finite v = LiveVertex t v → finite_point (point t v) ≡ true

  mates : (c o : ℕ) → mates_test t.corner_vertex t.corner_opposite t.corner_mark t.corners c o ≡ true
      → Mate (Live t) (opposite t) (vertex t) c o
  unfolding mates_test back_test
  mates c o e =
      let a = live t.corner_mark t.corners o in
      let b = eqb (opposite t o) c in
      let d = eqb (vertex t (next o)) (vertex t (previous c)) in
      let f = eqb (vertex t (previous o)) (vertex t (next c)) in
      let r : b && (d && f) ≡ true = (and_parts a (b && (d && f)) e).1 in
      record {
        over = live_true t.corner_mark t.corners o (and_parts a (b && (d && f)) e).0;
        pair = eqb-true _ _ (and_parts b (d && f) r).0;
        tail = eqb-true _ _ (and_parts d f (and_parts b (d && f) r).1).0;
        head = eqb-true _ _ (and_parts d f (and_parts b (d && f) r).1).1;
      }

  mates_back : (c o : ℕ) → Mate (Live t) (opposite t) (vertex t) c o
      → mates_test t.corner_vertex t.corner_opposite t.corner_mark t.corners c o ≡ true
  unfolding mates_test back_test
  mates_back c o m =
      and_from _ _ (true_live _ _ _ m.over) (and_from _ _ (eq-eqb _ _ m.pair) (and_from _ _ (eq-eqb _ _ m.tail) (eq-eqb _ _ m.head)))

  pub holds_at : (test : Test) (i : ℕ) → holds test t i ≡ true → At test i
  unfolding At holds counts_test mark_test face_test vertex_test differ_test opposite_test corner_test fan_test point_test
  holds_at Counts i e =
      let a = leb t.corners (corner_room t) in
      let b = leb t.vertices (vertex_room t) in
      let d = eqb (t.corners % 3) 0 in
      let f : b && d ≡ true = (and_parts a (b && d) e).1 in
      (leb-true _ _ (and_parts a (b && d) e).0, leb-true _ _ (and_parts b d f).0, eqb-true _ _ (and_parts b d f).1)
  holds_at CornerMark c e = leb-true _ _ e
  holds_at FaceMark c e = eqb-true _ _ e
  holds_at VertexMark v e = leb-true _ _ e
  holds_at CornerVertex c e = λ l. live_true _ _ _ (implies_elim (live t.corner_mark t.corners c) _ e (true_live _ _ _ l))
  holds_at FaceVertex c e = λ l. eqb_not _ _ (implies_elim (live t.corner_mark t.corners c) _ e (true_live _ _ _ l))
  holds_at Opposite c e =
      λ l n.
      mates c (opposite t c)
      (implies_elim (not (eqb (opposite t c) absent)) _ (implies_elim (live t.corner_mark t.corners c) _ e (true_live _ _ _ l)) (not_eqb _ _ n))
  holds_at VertexCorner v e =
      λ l.
      let a = live t.corner_mark t.corners (corner t v) in
      let b = eqb (vertex t (corner t v)) v in
      let f : a && b ≡ true = implies_elim (live t.vertex_mark t.vertices v) _ e (true_live _ _ _ l) in
      (live_true _ _ _ (and_parts a b f).0, eqb-true _ _ (and_parts a b f).1)
  holds_at CornerFan c e = λ l. implies_elim (live t.corner_mark t.corners c) _ e (true_live _ _ _ l)
  holds_at Finite v e = λ l. implies_elim (live t.vertex_mark t.vertices v) _ e (true_live _ _ _ l)

  pub at_holds : (test : Test) (i : ℕ) → At test i → holds test t i ≡ true
  unfolding At holds counts_test mark_test face_test vertex_test differ_test opposite_test corner_test fan_test point_test
  at_holds Counts i h = and_from _ _ (le-leb _ _ h.0) (and_from _ _ (le-leb _ _ h.1) (eq-eqb _ _ h.2))
  at_holds CornerMark c h = le-leb _ _ h
  at_holds FaceMark c h = eq-eqb _ _ h
  at_holds VertexMark v h = le-leb _ _ h
  at_holds CornerVertex c h =
      implies_intro (live t.corner_mark t.corners c) _ (λ e. true_live t.vertex_mark t.vertices (vertex t c) (h (live_true _ _ _ e)))
  at_holds FaceVertex c h = implies_intro (live t.corner_mark t.corners c) _ (λ e. not_eqb _ _ (h (live_true _ _ _ e)))
  at_holds Opposite c h =
      implies_intro (live t.corner_mark t.corners c) _
      (λ e. implies_intro (not (eqb (opposite t c) absent)) _ (λ n. mates_back c (opposite t c) (h (live_true _ _ _ e) (eqb_not _ _ n))))
  at_holds VertexCorner v h =
      implies_intro (live t.vertex_mark t.vertices v) _
      (λ e. and_from _ _ (true_live t.corner_mark t.corners (corner t v) (h (live_true _ _ _ e)).0) (eq-eqb _ _ (h (live_true _ _ _ e)).1))
  at_holds CornerFan c h = implies_intro (live t.corner_mark t.corners c) _ (λ e. h (live_true _ _ _ e))
  at_holds Finite v h = implies_intro (live t.vertex_mark t.vertices v) _ (λ e. h (live_true _ _ _ e))
