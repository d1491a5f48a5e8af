-- Sums over the numbers below a bound, and counting. Assumes nothing.
use mathlib.Core.Path.{◌≡◌, refl, ap, sym, ◌∙◌, subst}
use mathlib.Core.Logic.{◌≢◌}
use Prim.Native.Nat.{ℕ, zero, suc, ◌+◌, ◌<◌}
use native.Mathlib.Omega.{arith}
use native.Mathlib.Decide.{ℕ_discrete}
use native.Mathlib.Numerals.{towards_suc}
use Rattle.fan.proofs.Redirect.{at, at_same, at_other, at_ind}

abbrev pub sum : ℕ → (ℕ → ℕ) → ℕ
sum zero f = 0
sum (suc n) f = sum n f + f n

pub sum_ext : (n : ℕ) (f g : ℕ → ℕ) → ((i : ℕ) → i < n → f i ≡ g i) → sum n f ≡ sum n g
sum_ext zero f g h = refl
sum_ext (suc n) f g h = let a : sum n f ≡ sum n g = sum_ext n f g (λ i l. h i (omega arith)) in omega (arith, h n (omega arith))

-- one value changed
pub sum_at : (n k p : ℕ) (f : ℕ → ℕ) → k < n → sum n (at k p f) + f k ≡ sum n f + p
sum_at zero k p f h = absurd (omega arith)
sum_at (suc n) k p f h = go (ℕ_discrete k n) (λ l. sum_at n k p f l)
  where
    go : Dec (k ≡ n) → (k < n → sum n (at k p f) + f k ≡ sum n f + p) → sum n (at k p f) + at k p f n + f k ≡ sum n f + f n + p
    go (yes e) r =
        let a : sum n (at k p f) ≡ sum n f = sum_ext n (at k p f) f (λ i l. at_other k p f i (omega arith)) in
        let b : at k p f n ≡ p = subst (λ (x : ℕ). at k p f x ≡ p) e (at_same k p f) in
        let c : f k ≡ f n = ap f e in
        omega arith
    go (no e) r =
        let b : at k p f n ≡ f n = at_other k p f n (λ z. e (sym z)) in
        let c : sum n (at k p f) + f k ≡ sum n f + p = r (omega arith) in
        omega arith

-- 1 where a decided statement holds
abbrev pub ind : {A : Type 0} → Dec A → ℕ
ind (yes a) = 1
ind (no a) = 0

pub ind_yes : {A : Type 0} (x : Dec A) → A → ind x ≡ 1
ind_yes (yes b) a = refl
ind_yes (no b) a = absurd (b a)

pub ind_no : {A : Type 0} (x : Dec A) → ¬ A → ind x ≡ 0
ind_no (yes b) a = absurd (a b)
ind_no (no b) a = refl

pub ind_iff : {A B : Type 0} (x : Dec A) (y : Dec B) → (A → B) → (B → A) → ind x ≡ ind y
ind_iff (yes a) y f g = sym (ind_yes y (f a))
ind_iff (no a) y f g = sym (ind_no y (λ b. a (g b)))

pub sum_one : (n : ℕ) (f : ℕ → ℕ) → sum (n + 1) f ≡ sum n f + f n
sum_one n f = simp towards_suc

pub sum_six : (n : ℕ) (f : ℕ → ℕ) → sum (n + 6) f ≡ sum n f + f n + f (n + 1) + f (n + 2) + f (n + 3) + f (n + 4) + f (n + 5)
sum_six n f = simp towards_suc

-- two values changed
pub sum_two : (n a b p q : ℕ) (f g : ℕ → ℕ) → a < n → b < n → a ≢ b → g a ≡ p → g b ≡ q → ((d : ℕ) → d < n → d ≢ a → d ≢ b → g d ≡ f d)
    → sum n g + f a + f b ≡ sum n f + p + q
sum_two n a b p q f g ha hb ab ga gb same =
    let s1 : sum n (at a p f) + f a ≡ sum n f + p = sum_at n a p f ha in
    let s2 : sum n (at b q (at a p f)) + at a p f b ≡ sum n (at a p f) + q = sum_at n b q (at a p f) hb in
    let vb : at a p f b ≡ f b = at_other a p f b (λ z. ab (sym z)) in
    let e : sum n g ≡ sum n (at b q (at a p f)) = sum_ext n g (at b q (at a p f)) place in
    omega arith
  where
    place : (d : ℕ) → d < n → g d ≡ at b q (at a p f) d
    place d l = at_ind (λ y. g d ≡ y) b q (at a p f) d (λ e. ap g e ∙ gb) (λ m. at_ind (λ y. g d ≡ y) a p f d (λ e. ap g e ∙ ga) (λ k. same d l k m))

-- four values handed round
pub sum_round : (n a b c d : ℕ) (f g : ℕ → ℕ) → a < n → b < n → c < n → d < n → b ≢ a → c ≢ a → c ≢ b → d ≢ a → d ≢ b → d ≢ c
    → g a ≡ f b → g b ≡ f c → g c ≡ f d → g d ≡ f a → ((i : ℕ) → i < n → i ≢ a → i ≢ b → i ≢ c → i ≢ d → g i ≡ f i) → sum n g ≡ sum n f
sum_round n a b c d f g ha hb hc hd ba ca cb da db dc ga gb gc gd same =
    let f1 : ℕ → ℕ = at a (f b) f in
    let f2 : ℕ → ℕ = at b (f c) f1 in
    let f3 : ℕ → ℕ = at c (f d) f2 in
    let vb : f1 b ≡ f b = simp at_other in
    let vc : f2 c ≡ f c = simp at_other in
    let vd : f3 d ≡ f d = simp at_other in
    let s1 : sum n f1 + f a ≡ sum n f + f b = sum_at n a (f b) f ha in
    let s2 : sum n f2 + f1 b ≡ sum n f1 + f c = sum_at n b (f c) f1 hb in
    let s3 : sum n f3 + f2 c ≡ sum n f2 + f d = sum_at n c (f d) f2 hc in
    let s4 : sum n (at d (f a) f3) + f3 d ≡ sum n f3 + f a = sum_at n d (f a) f3 hd in
    let e : sum n g ≡ sum n (at d (f a) f3) = sum_ext n g (at d (f a) f3) place in
    omega arith
  where
    place : (i : ℕ) → i < n → g i ≡ at d (f a) (at c (f d) (at b (f c) (at a (f b) f))) i
    place i l = at_ind (λ y. g i ≡ y) d _ _ i (λ e. ap g e ∙ gd) (λ p. at_ind (λ y. g i ≡ y) c _ _ i (λ e. ap g e ∙ gc) (λ q.
        at_ind (λ y. g i ≡ y) b _ _ i (λ e. ap g e ∙ gb) (λ r. at_ind (λ y. g i ≡ y) a _ _ i (λ e. ap g e ∙ ga) (λ s. same i l s r q p))))
