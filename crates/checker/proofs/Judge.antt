-- What the verdict means: 0 exactly for the well-formed tables, 1 exactly for those whose parts disagree, and 7 names the lowest rule
-- and slot. Assumes nothing.
use Prim.Native.Nat.{ℕ, ◌≤◌, ◌<◌}
use mathlib.Core.Path.{◌≡◌, refl, sym, ap, subst, ◌∙◌}
use mathlib.Core.Bool.{Bool, true, false, false≢true}
use native.Mathlib.Omega.{arith}
use native.Mathlib.Decide.{dec_lt}
use borrow.Author.Tests.{lt-ltb, le-ltb, leb-false}
use Rattle.table.specs.Table.{Table, shaped, Shaped}
use Rattle.table.specs.Rules.{WellFormed}
use Rattle.table.proofs.Shape.{shaped_true, true_shaped}
use Rattle.fan.proofs.Tables.{table_linked}
use Rattle.checker_kinds.specs.Kinds.{tests, test_at, rule_of, span, slot_of}
use Rattle.checker_kinds.specs.declared.Test.{Test}
use Rattle.checker_kinds.specs.declared.Test.TheVariants.{Counts, CornerMark, FaceMark, VertexMark, CornerVertex}
use Rattle.checker_kinds.specs.declared.Test.TheVariants.{FaceVertex, Opposite, VertexCorner, CornerFan, Finite}
use Rattle.checker_kinds.proofs.Places.{place, test_place, place_test, rule_order}
use Rattle.checker_rules.specs.Tests.{holds, AllHold}
use Rattle.checker_rules.proofs.Walks.{fan_near}
use Rattle.checker_rules.proofs.Rules.{At, holds_at, at_holds}
use Rattle.checker.specs.First.{first_bad}
use Rattle.checker.specs.Order.{first_of, clean, passed, disagree, broken, ruled, verdict_of}
use Rattle.checker.specs.Blame.{AllObey, Blames, Judged, unshaped, sound, blamed}
use Rattle.checker.specs.Verdict.{Verdict}
use Rattle.checker.proofs.First.{First, first_bad_lem, all_pass, pass_all}
use Rattle.checker.proofs.Order.{clean_all, all_clean}
use Rattle.checker.proofs.Keeping.{Before, counts, face_mark, corner_vertex_lem, face_vertex, opposites, vertex_corner_lem, fans_keep}
use Rattle.checker.proofs.Keeping.{keeps_below, keeps_holds, slot_used, all_keep}

passed_not : (r s : ℕ) → broken r s ≡ passed → ⊥
passed_not r s e = let z : ◌≡◌ {A = ℕ} 7 0 = ap (λ (v : Verdict). v.answer) e in omega arith

module _ (t : Table) where
  -- ---- every test passes, and the table is well-formed

  module _ (S : Shaped t) (h : Before t tests) where
    three : Before t 3
    three k l = h k (omega arith)

    eight : Before t 8
    eight k l = h k (omega arith)

    all_well_formed : WellFormed t
    unfolding test_at span At
    all_well_formed = record {
      corners_fit = (counts t three).0;
      vertices_fit = (counts t three).1;
      thirds = (counts t three).2;
      corner_marks = λ c l. holds_at t CornerMark c (h 1 (omega arith) c l);
      face_marks = face_mark t three;
      vertex_marks = λ v l. holds_at t VertexMark v (h 3 (omega arith) v l);
      vertex_live = corner_vertex_lem t S eight;
      differ = face_vertex t S eight;
      mate = opposites t S eight;
      corner_live = λ v l. (vertex_corner_lem t S eight v l).0;
      corner_own = λ v l. (vertex_corner_lem t S eight v l).1;
      one_fan = λ c l. fans_keep t S eight t.corners (λ d m. h 8 (omega arith) d m) c l.0 l;
      finite = λ v l. holds_at t Finite v (h 9 (omega arith) v l.0) l;
    }

  module _ (S : Shaped t) (W : WellFormed t) where
    at_all : (test : Test) (i : ℕ) → i < span test t.vertices t.corners → At t test i
    unfolding span At
    at_all Counts i l = (W.corners_fit, W.vertices_fit, W.thirds)
    at_all CornerMark c l = W.corner_marks c l
    at_all FaceMark c l = W.face_marks c l
    at_all VertexMark v l = W.vertex_marks v l
    at_all CornerVertex c l = W.vertex_live c
    at_all FaceVertex c l = W.differ c
    at_all Opposite c l = W.mate c
    at_all VertexCorner v l = λ m. (W.corner_live v m, W.corner_own v m)
    at_all CornerFan c l =
        λ m.
        fan_near t.corner_opposite (table_linked t S W) t.corners (λ d n. n.0) _ c (W.corner_live _ (W.vertex_live c m)) m (W.one_fan c m)
    at_all Finite v l = W.finite v

    well_formed_all : (test : Test) → AllHold test t
    well_formed_all test i l = at_holds t test i (at_all test i l)

  -- ---- the verdict

  module _ (S : Shaped t) where
    lowest : first_bad (clean t) tests < tests → Judged t (ruled t)
    unfolding ruled clean first_of
    lowest l =
        let f : First (clean t) tests (first_bad (clean t) tests) = first_bad_lem (clean t) tests in
        let k = first_bad (clean t) tests in
        let n = span (test_at k) t.vertices t.corners in
        let g : First (holds (test_at k) t) n (first_bad (holds (test_at k) t) n) = first_bad_lem (holds (test_at k) t) n in
        let w : first_bad (holds (test_at k) t) n < n = leb-false _ _ (f.fails l) in
        rw (lt-ltb _ _ l) (blamed S (blame k l (λ j s. clean_all t j (f.passes j s)) (first_bad (holds (test_at k) t) n) w (g.fails w) g.passes))
      where
        blame : (k : ℕ) → k < tests → Before t k → (i : ℕ) → i < span (test_at k) t.vertices t.corners → holds (test_at k) t i ≡ false
            → ((j : ℕ) → j < i → holds (test_at k) t j ≡ true) → Blames t (rule_of (test_at k)) (slot_of (test_at k) i)
        blame k s h i l e p =
            let b : Before t (place (test_at k)) = subst (λ (x : ℕ). Before t x) (sym (place_test k s)) h in
            let a : (j : ℕ) → j < k → AllObey (test_at j) t = λ j m. early k s h j m in
            record {
              k = k;
              kind = s;
              named = refl;
              used = slot_used t (test_at k) i l;
              breaks = λ x. false≢true (sym e ∙ keeps_holds t S (test_at k) b i x);
              lowest_slot = λ j m u. keeps_below t S (test_at k) b i p j m u;
              earlier_kinds = a;
              lower_rules = λ test m. lower k a test m (dec_lt (place test) k);
            }
          where
            early : (k : ℕ) → k < tests → Before t k → (j : ℕ) → j < k → AllObey (test_at j) t
            early k s h j m =
                all_keep t S (test_at j) (subst (λ (x : ℕ). Before t x) (sym (place_test j (omega arith))) (λ i n. h i (omega arith))) (h j m)

            lower : (k : ℕ) → ((j : ℕ) → j < k → AllObey (test_at j) t) → (test : Test) → rule_of test < rule_of (test_at k) → Dec (place test < k)
                → AllObey test t
            lower k a test m (yes d) = subst (λ (x : Test). AllObey x t) (test_place test) (a (place test) d)
            lower k a test m (no d) =
                absurd (omega (arith, rule_order (place test) k (omega arith), ap rule_of (test_place test)))

    all_passed : tests ≤ first_bad (clean t) tests → Judged t (ruled t)
    unfolding ruled
    all_passed h =
        rw (le-ltb _ _ h) (sound S (all_well_formed S (λ k l. clean_all t k (all_pass (clean t) tests h k l))))

    judged_ruled : Judged t (ruled t)
    judged_ruled = go (dec_lt (first_bad (clean t) tests) tests)
      where
        go : Dec (first_bad (clean t) tests < tests) → Judged t (ruled t)
        go (yes l) = lowest l
        go (no l) = all_passed (omega arith)

  -- every table has one of the three answers, for the reason that the paper gives
  pub judged : Judged t (verdict_of t)
  unfolding verdict_of
  judged = go (shaped t) refl
    where
      go : (b : Bool) → shaped t ≡ b → Judged t (verdict_of t)
      go true h = rw h (judged_ruled (shaped_true t h))
      go false h = rw h (unshaped (λ S. false≢true (sym h ∙ true_shaped t S)))

  -- 0 exactly for the well-formed tables
  pub verdict_sound : (verdict_of t).answer ≡ 0 → Shaped t × WellFormed t
  verdict_sound e = go (verdict_of t) judged e
    where
      go : (v : Verdict) → Judged t v → v.answer ≡ 0 → Shaped t × WellFormed t
      go _ (unshaped n) e = absurd (omega arith)
      go _ (sound S W) e = (S, W)
      go _ (blamed S b) e = absurd (omega arith)

  pub verdict_complete : Shaped t → WellFormed t → verdict_of t ≡ passed
  unfolding verdict_of ruled
  verdict_complete S W =
      rw (true_shaped t S, le-ltb _ _ (pass_all (clean t) tests (λ k l. all_clean t k (well_formed_all S W (test_at k)))))

  -- 1 exactly where the parts disagree
  pub verdict_shaped : Shaped t → (verdict_of t).answer ≡ 1 → ⊥
  verdict_shaped S e = go (verdict_of t) judged e
    where
      go : (v : Verdict) → Judged t v → v.answer ≡ 1 → ⊥
      go _ (unshaped n) e = n S
      go _ (sound S W) e = absurd (omega arith)
      go _ (blamed S b) e = absurd (omega arith)

  pub verdict_unshaped : (Shaped t → ⊥) → verdict_of t ≡ disagree
  verdict_unshaped n = go (verdict_of t) judged
    where
      go : (v : Verdict) → Judged t v → v ≡ disagree
      go _ (unshaped m) = refl
      go _ (sound S W) = absurd (n S)
      go _ (blamed S b) = absurd (n S)

  -- 7 names the lowest rule and slot, so the table is not well-formed
  pub verdict_blames : (verdict_of t).answer ≡ 7 → Blames t (verdict_of t).rule (verdict_of t).slot
  verdict_blames e = go (verdict_of t) judged e
    where
      go : (v : Verdict) → Judged t v → v.answer ≡ 7 → Blames t v.rule v.slot
      go _ (unshaped n) e = absurd (omega arith)
      go _ (sound S W) e = absurd (omega arith)
      go _ (blamed S b) e = b

  pub seven_refutes : (verdict_of t).answer ≡ 7 → WellFormed t → ⊥
  seven_refutes e W = go (verdict_of t) judged e refl
    where
      go : (v : Verdict) → Judged t v → v.answer ≡ 7 → verdict_of t ≡ v → ⊥
      go _ (unshaped n) e f = absurd (omega arith)
      go _ (sound S U) e f = absurd (omega arith)
      go _ (blamed {rule} {slot} S b) e f = passed_not rule slot (sym f ∙ verdict_complete S W)
