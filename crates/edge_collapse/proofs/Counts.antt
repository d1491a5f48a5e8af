-- What is counted in a list at hand. Assumes nothing.
use Rattle.std.proofs.Common.{◌≡◌, ℕ, ◌+◌, Bool, true, false, cond, ◌||◌, List, [], ◌∷◌, refl, ap, ◌∙◌, length, filter, arith}
use Rattle.std.proofs.lemmas.List.Sums.{length-filter}
use Rattle.std.specs.List.{count_by, list_any}
use borrow.Author.Tests.{lt-ltb}
use lib.Dec.{eqb, ltb}
use Rattle.edge_collapse.specs.EdgeCollapse.{how_many, times_in, common_in}

passed : (p : ℕ → Bool) (l : List ℕ) → how_many p l ≡ length (filter p l)
passed p [] = refl
passed p (x ∷ l) = go (p x) (passed p l)
  where
    go : (b : Bool) → how_many p l ≡ length (filter p l) → cond b 1 0 + how_many p l ≡ length (cond b (x ∷ filter p l) (filter p l))
    go true e = omega (arith, e)
    go false e = omega (arith, e)

pub times_counted : (l : List ℕ) (x : ℕ) → times_in l x ≡ count_by (λ y. eqb y x) l
unfolding times_in
times_counted l x = passed (λ y. eqb y x) l ∙ length-filter (λ y. eqb y x) l

-- one that occurs is found
occurs : (p : ℕ → Bool) (l : List ℕ) → ltb 0 (how_many p l) ≡ list_any p l
occurs p [] = refl
occurs p (x ∷ l) = go (p x) (occurs p l)
  where
    go : (b : Bool) → ltb 0 (how_many p l) ≡ list_any p l → ltb 0 (cond b 1 0 + how_many p l) ≡ (b || list_any p l)
    go true e = lt-ltb 0 (1 + how_many p l) (omega arith)
    go false e = let z : 0 + how_many p l ≡ how_many p l = omega arith in ap (ltb 0) z ∙ e

same_tests : (p q : ℕ → Bool) → ((x : ℕ) → p x ≡ q x) → (l : List ℕ) → how_many p l ≡ how_many q l
same_tests p q e [] = refl
same_tests p q e (x ∷ l) = ap (λ (b : Bool). cond b 1 0 + how_many p l) (e x) ∙ ap (λ (n : ℕ). cond (q x) 1 0 + n) (same_tests p q e l)

pub common_counted : (kept lost : List ℕ) → common_in kept lost ≡ count_by (λ x. list_any (λ y. eqb y x) kept) lost
unfolding common_in times_in
common_counted kept lost =
    same_tests (λ x. ltb 0 (times_in kept x)) (λ x. list_any (λ y. eqb y x) kept) (λ x. occurs (λ y. eqb y x) kept) lost
    ∙ passed (λ x. list_any (λ y. eqb y x) kept) lost
    ∙ length-filter (λ x. list_any (λ y. eqb y x) kept) lost
