-- Laws of the order of the tests: each has its place, and the rules come in ascending order. Assumes nothing.
use Prim.Native.Nat.{ℕ, zero, suc, ◌≤◌, ◌<◌}
use mathlib.Core.Path.{◌≡◌, refl, ap}
use native.Mathlib.Omega.{arith}
use native.Mathlib.Decide.{ℕ_discrete, dec_lt}
use lib.ListN.{get_or}
use Rattle.checker_kinds.specs.Kinds.{tests, test_at, rule_of}
use Rattle.checker_kinds.specs.Order.{InOrder}
use Rattle.checker_kinds.specs.declared.Test.{Test}
use Rattle.checker_kinds.specs.declared.TheConstants.Test.{ALL}
use Rattle.checker_kinds.specs.declared.Test.TheVariants.{Counts, CornerMark, FaceMark, VertexMark, CornerVertex}
use Rattle.checker_kinds.specs.declared.Test.TheVariants.{FaceVertex, Opposite, VertexCorner, CornerFan, Finite}

-- the table of the tests holds them in their order
pub in_order : (k : ℕ) (d : Test) → k < tests → get_or ALL k d ≡ test_at k
unfolding test_at
in_order zero d h = refl
in_order (suc zero) d h = refl
in_order (suc (suc zero)) d h = refl
in_order (suc (suc (suc zero))) d h = refl
in_order (suc (suc (suc (suc zero)))) d h = refl
in_order (suc (suc (suc (suc (suc zero))))) d h = refl
in_order (suc (suc (suc (suc (suc (suc zero)))))) d h = refl
in_order (suc (suc (suc (suc (suc (suc (suc zero))))))) d h = refl
in_order (suc (suc (suc (suc (suc (suc (suc (suc zero)))))))) d h = refl
in_order (suc (suc (suc (suc (suc (suc (suc (suc (suc zero))))))))) d h = refl
in_order (suc (suc (suc (suc (suc (suc (suc (suc (suc (suc k)))))))))) d h = absurd (omega arith)

-- as specs/Order.antt says it, of every number
pub table_in_order : InOrder
unfolding test_at
table_in_order k = go k (dec_lt k tests)
  where
    past : (k : ℕ) → tests ≤ k → get_or ALL k Finite ≡ test_at k
    past zero h = absurd (omega arith)
    past (suc zero) h = absurd (omega arith)
    past (suc (suc zero)) h = absurd (omega arith)
    past (suc (suc (suc zero))) h = absurd (omega arith)
    past (suc (suc (suc (suc zero)))) h = absurd (omega arith)
    past (suc (suc (suc (suc (suc zero))))) h = absurd (omega arith)
    past (suc (suc (suc (suc (suc (suc zero)))))) h = absurd (omega arith)
    past (suc (suc (suc (suc (suc (suc (suc zero))))))) h = absurd (omega arith)
    past (suc (suc (suc (suc (suc (suc (suc (suc zero)))))))) h = absurd (omega arith)
    past (suc (suc (suc (suc (suc (suc (suc (suc (suc zero))))))))) h = refl
    past (suc (suc (suc (suc (suc (suc (suc (suc (suc (suc k)))))))))) h = refl

    go : (k : ℕ) → Dec (k < tests) → get_or ALL k Finite ≡ test_at k
    go k (yes h) = in_order k Finite h
    go k (no h) = past k (omega arith)

-- when a test's turn comes
unfoldable pub place : Test → ℕ
place Counts = 0
place CornerMark = 1
place FaceMark = 2
place VertexMark = 3
place CornerVertex = 4
place FaceVertex = 5
place Opposite = 6
place VertexCorner = 7
place CornerFan = 8
place Finite = 9

pub test_place : (test : Test) → test_at (place test) ≡ test
unfolding place test_at
test_place Counts = refl
test_place CornerMark = refl
test_place FaceMark = refl
test_place VertexMark = refl
test_place CornerVertex = refl
test_place FaceVertex = refl
test_place Opposite = refl
test_place VertexCorner = refl
test_place CornerFan = refl
test_place Finite = refl

pub place_test : (k : ℕ) → k < tests → place (test_at k) ≡ k
unfolding place test_at
place_test zero h = refl
place_test (suc zero) h = refl
place_test (suc (suc zero)) h = refl
place_test (suc (suc (suc zero))) h = refl
place_test (suc (suc (suc (suc zero)))) h = refl
place_test (suc (suc (suc (suc (suc zero))))) h = refl
place_test (suc (suc (suc (suc (suc (suc zero)))))) h = refl
place_test (suc (suc (suc (suc (suc (suc (suc zero))))))) h = refl
place_test (suc (suc (suc (suc (suc (suc (suc (suc zero)))))))) h = refl
place_test (suc (suc (suc (suc (suc (suc (suc (suc (suc zero))))))))) h = refl
place_test (suc (suc (suc (suc (suc (suc (suc (suc (suc (suc k)))))))))) h = absurd (omega arith)

-- the rules come in ascending order
rule_next : (k : ℕ) → rule_of (test_at k) ≤ rule_of (test_at (suc k))
unfolding rule_of test_at
rule_next zero = omega arith
rule_next (suc zero) = omega arith
rule_next (suc (suc zero)) = omega arith
rule_next (suc (suc (suc zero))) = omega arith
rule_next (suc (suc (suc (suc zero)))) = omega arith
rule_next (suc (suc (suc (suc (suc zero))))) = omega arith
rule_next (suc (suc (suc (suc (suc (suc zero)))))) = omega arith
rule_next (suc (suc (suc (suc (suc (suc (suc zero))))))) = omega arith
rule_next (suc (suc (suc (suc (suc (suc (suc (suc zero)))))))) = omega arith
rule_next (suc (suc (suc (suc (suc (suc (suc (suc (suc k))))))))) = omega arith

pub rule_order : (j k : ℕ) → k ≤ j → rule_of (test_at k) ≤ rule_of (test_at j)
rule_order zero k h = omega (arith, ap (λ (x : ℕ). rule_of (test_at x)) (none k h))
  where
    none : (k : ℕ) → k ≤ 0 → k ≡ zero
    none k h = omega arith
rule_order (suc j) k h = go (λ l. rule_order j k l) (ℕ_discrete k (suc j))
  where
    go : (k ≤ j → rule_of (test_at k) ≤ rule_of (test_at j)) → Dec (k ≡ suc j) → rule_of (test_at k) ≤ rule_of (test_at (suc j))
    go ih (yes e) = omega (arith, ap (λ (x : ℕ). rule_of (test_at x)) e)
    go ih (no n) = omega (arith, ih (omega arith), rule_next j)
