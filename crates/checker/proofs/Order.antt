-- The loop over the tests, and the arms of the verdict. Assumes nothing.
use Prim.Native.Nat.{ℕ, ◌+◌, ◌-◌, ◌<◌, ◌≤◌}
use lib.ListN.{length, take, drop, get_or}
use lib.Seq.{take_all}
use mathlib.Core.List.{List}
use mathlib.Core.Path.{◌≡◌, sym, ap, ◌∙◌}
use mathlib.Core.Bool.{Bool, true, false}
use native.Mathlib.Omega.{arith}
use borrow.Author.Tests.{leb-true, le-leb, lt-leb, lt-ltb, le-ltb}
use Rattle.std.proofs.Common.{Option, Some, None, unwrap_or}
use Rattle.std.proofs.lemmas.List.{get_or-drop, length-drop}
use Rattle.table.specs.Table.{Table, shaped}
use Rattle.checker_kinds.specs.Kinds.{tests, test_at, span, rule_of, slot_of}
use Rattle.checker_kinds.specs.declared.Test.{Test}
use Rattle.checker_kinds.specs.declared.TheConstants.Test.{ALL}
use Rattle.checker_kinds.proofs.Places.{in_order}
use Rattle.checker_rules.specs.Tests.{holds, AllHold}
use Rattle.checker.specs.Order.{first_of, clean, passed, disagree, broken, ruled, verdict_of}
use Rattle.checker.specs.Verdict.{Verdict}
use Rattle.checker.proofs.First.{Passed, passed_bad, passed_all, all_pass, pass_all}

-- a test is clean exactly where it passes at all its slots
module _ (t : Table) (k : ℕ) where
  pub clean_all : clean t k ≡ true → AllHold (test_at k) t
  unfolding clean first_of
  clean_all h = all_pass (holds (test_at k) t) (span (test_at k) t.vertices t.corners) (leb-true _ _ h)

  pub all_clean : AllHold (test_at k) t → clean t k ≡ true
  unfolding clean first_of
  all_clean h = le-leb _ _ (pass_all (holds (test_at k) t) (span (test_at k) t.vertices t.corners) h)

-- the first s tests pass everywhere, which settles them
pub settled_start : (t : Table) (s n : ℕ) → s ≡ n → n ≤ tests → ((k : ℕ) → k < n → AllHold (test_at k) t) → Passed (clean t) tests (s + 0)
settled_start t s n e h p =
    record { within = omega arith; passes = λ k l. all_clean t k (p k (omega arith)) }

-- the tests from the s-th on, as a slice of the table of tests has them
abbrev Rest : ℕ → List Test
Rest s = take (tests - s) (drop s ALL)

pub tests_from : (s i : ℕ) (d : Test) → i < length (Rest s) → (get_or (Rest s) i d ≡ test_at (s + i)) × (s + i < tests)
tests_from s i d h =
    let e : Rest s ≡ drop s ALL = take_all (tests - s) (drop s ALL) (omega (arith, length-drop s ALL)) in
    let l : s + i < tests = omega (arith, length-drop s ALL, ap length e) in
    (ap (λ (x : List Test). get_or x i d) e ∙ get_or-drop s ALL i d ∙ in_order (s + i) d l, l)

-- what the search for a slot says of the k-th test
module _ (t : Table) (k : ℕ) (test : Test) (a : test ≡ test_at k) (r : Option ℕ)
    (b : unwrap_or r (span test t.vertices t.corners) ≡ first_of test t) where
  is_span : span test t.vertices t.corners ≡ span (test_at k) t.vertices t.corners
  is_span = ap (λ (x : Test). span x t.vertices t.corners) a

  first_is : (i : ℕ) → unwrap_or r (span test t.vertices t.corners) ≡ i → i ≡ first_of (test_at k) t
  first_is i e = sym e ∙ b ∙ ap (λ (x : Test). first_of x t) a

  pub clean_yes : r ≡ None → true ≡ clean t k
  unfolding clean
  clean_yes e =
      let n = span test t.vertices t.corners in
      rw (← (first_is n (ap (λ (x : Option ℕ). unwrap_or x n) e)), ← is_span, le-leb n n (omega arith))

  module _ (i : ℕ) (e : r ≡ Some i) (h : i < span test t.vertices t.corners) where
    is_first : i ≡ first_of (test_at k) t
    is_first = first_is i (ap (λ (x : Option ℕ). unwrap_or x (span test t.vertices t.corners)) e)

    clean_no : false ≡ clean t k
    unfolding clean
    clean_no = rw (← is_first, ← is_span, lt-leb _ _ h)

    pub ruled_bad : (rule slot : ℕ) → Passed (clean t) tests k → k < tests → rule ≡ rule_of test → slot ≡ slot_of test i → broken rule slot ≡ ruled t
    unfolding ruled
    ruled_bad rule slot w l f g =
        rw (← passed_bad (clean t) tests k w clean_no, lt-ltb _ _ l, ← is_first, ← a, f, g)

pub ruled_good : (t : Table) (k : ℕ) → Passed (clean t) tests k → tests ≤ k → passed ≡ ruled t
unfolding ruled
ruled_good t k w h = rw (← passed_all (clean t) tests k w h, le-ltb _ _ h)

module _ (t : Table) (b : Bool) (is : b ≡ shaped t) where
  pub verdict_shaped : (r : Verdict) → b ≡ true → r ≡ ruled t → r ≡ verdict_of t
  unfolding verdict_of
  verdict_shaped r h e = rw (← is, h) e

  pub verdict_unshaped : b ≡ false → disagree ≡ verdict_of t
  unfolding verdict_of
  verdict_unshaped h = rw (← is, h)
