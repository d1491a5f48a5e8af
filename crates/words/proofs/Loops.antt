-- A loop that writes f 0, f 1, .., one that tests every number below n, and one that reads four bytes at a time.
use mathlib.Core.Path.{◌≡◌, refl, ap, sym, ◌∙◌}
use mathlib.Core.Bool.{Bool, true, false, ◌&&◌}
use mathlib.Core.List.{List, [], ◌∷◌, ◌++◌}
use Prim.Native.Nat.{ℕ, zero, suc, ◌+◌, ◌*◌, ◌≤◌, ◌<◌}
use native.Mathlib.Omega.{arith}
use native.Mathlib.Numerals.{add-one}
use lib.ListN.{length, set, length-set, take, get_or, get_or-append}
use lib.Seq.{take_all, take-suc-set}
use Rattle.std.proofs.lemmas.List.{length-append, get_or-append-add, get_or_default}
use Rattle.words.specs.Words.{written, tabled, word_of, word_no}
use Rattle.words.specs.Same.{every}

module _ {A : Type 0} (base : ℕ) (f : ℕ → A) (l₀ : List A) where
  pub written_none : l₀ ≡ written 0 base f l₀
  unfolding written
  written_none = refl

  pub written_more : (k j : ℕ) (l r : List A) (v : A) → l ≡ written k base f l₀ → v ≡ f k → j ≡ base + k → r ≡ set l j v →
      r ≡ written (k + 1) base f l₀
  unfolding written
  written_more k j l r v p q i e = rw add-one (cc)

module _ (test : ℕ → Bool) where
  pub every_none : every 0 test ≡ true
  unfolding every
  every_none = refl

  pub every_more : (k : ℕ) → every k test ≡ true → test k ≡ true → every (k + 1) test ≡ true
  unfolding every
  every_more k p q = rw (add-one, q) p

  pub every_all : (k n : ℕ) → every k test ≡ true → k ≡ n → every n test ≡ true
  every_all k n p e = cc

  apart : (k n : ℕ) → test k ≡ false → test n ≡ true → k < suc n → k < n
  apart k n q e h = below k n h (λ s. unlike (sym q ∙ ap test s ∙ e))
    where
      unlike : false ≡ true → ⊥
      unlike z = let y : ◌≡◌ {A = ℕ} 0 1 = cc in omega arith

      below : (k n : ℕ) → k < suc n → (k ≡ n → ⊥) → k < n
      below k n h d = omega arith

  by_last : (n : ℕ) (b : Bool) → test n ≡ b → (test n ≡ true → every n test ≡ false) → (b && every n test) ≡ false
  by_last n true e h = h e
  by_last n false e h = refl

  pub every_fails : (n k : ℕ) → k < n → test k ≡ false → every n test ≡ false
  unfolding every
  every_fails zero k h q = absurd (omega arith)
  every_fails (suc n) k h q = by_last n (test n) refl (λ e. every_fails n k (apart k n q e h) q)

-- an entry of l beside one of w
module _ {A : Type 0} (l : List A) (w : List ℕ) (rest : ℕ) (none : A) (p : A → ℕ → Bool) where
  pub told_at : (k : ℕ) (x : A) (y : ℕ) (r b : Bool) → k < length l → x ≡ get_or l k x → y ≡ get_or w k rest → r ≡ p x y → r ≡ b
      → p (get_or l k none) (get_or w k rest) ≡ b
  told_at k x y r b i e f g h = let d = get_or_default l k x none i in cc

-- rest is what is left of the bytes s once k words are read
module _ (s : List ℕ) where
  pub record Left (rest : List ℕ) (k : ℕ) : Type 0 where
    pub long : length rest + 4 * k ≡ length s
    pub same : (i : ℕ) → get_or rest i 0 ≡ get_or s (4 * k + i) 0

  pub left_all : Left s 0
  left_all = record { long = omega arith; same = λ i. ap (λ (j : ℕ). get_or s j 0) (same i) }
    where
      same : (i : ℕ) → i ≡ 4 * 0 + i
      same i = omega arith

  pub left_more : (rest x more : List ℕ) (k : ℕ) → Left rest k → rest ≡ x ++ more → length x ≡ 4 → Left more (k + 1)
  left_more rest x more k p e n = record { long = omega (arith, length-append x more, ap length e); same = step }
    where
      past : (i : ℕ) → get_or more i 0 ≡ get_or rest (4 + i) 0
      past i = let a = get_or-append-add x more i 0 in cc

      on : (i : ℕ) → 4 * k + (4 + i) ≡ 4 * (k + 1) + i
      on i = omega arith

      step : (i : ℕ) → get_or more i 0 ≡ get_or s (4 * (k + 1) + i) 0
      step i = past i ∙ p.same (4 + i) ∙ ap (λ (j : ℕ). get_or s j 0) (on i)

  pub left_word : (rest x more : List ℕ) (k : ℕ) → Left rest k → rest ≡ x ++ more → length x ≡ 4
      → word_of (get_or x 0 0) (get_or x 1 0) (get_or x 2 0) (get_or x 3 0) ≡ word_no s k
  unfolding word_no
  left_word rest x more k p e n = rw (byte 0 (omega arith), byte 1 (omega arith), byte 2 (omega arith), byte 3 (omega arith), plain)
    where
      byte : (i : ℕ) → i < 4 → get_or x i 0 ≡ get_or s (4 * k + i) 0
      byte i h = let lt : i < length x = omega arith in sym (get_or-append x more 0 i lt) ∙ ap (λ (l : List ℕ). get_or l i 0) (sym e) ∙ p.same i

      plain : get_or s (4 * k + 0) 0 ≡ get_or s (4 * k) 0
      plain = ap (λ (j : ℕ). get_or s j 0) (omega arith)

-- a loop that has stored f 0, .. f (i - 1) in the first slots of l₀
module _ {A : Type 0} (l₀ : List A) (f : ℕ → A) where
  pub record Tabling (l : List A) (i : ℕ) : Type 0 where
    pub size : length l ≡ length l₀
    pub low : i ≤ length l₀
    pub head : take i l ≡ tabled i f

  pub tabling_start : Tabling l₀ 0
  unfolding tabled
  tabling_start = record { size = refl; low = omega arith; head = refl }

  pub tabling_on : (l : List A) (i : ℕ) (x : A) → Tabling l i → i < length l₀ → x ≡ f i → Tabling (set l i x) (i + 1)
  unfolding tabled
  tabling_on l i x F h e =
      record {
        size = length-set l i x ∙ F.size;
        low = omega arith;
        head = rw add-one (take-suc-set l i x (inside F.size) ∙ grow F.head);
      }
    where
      inside : length l ≡ length l₀ → i < length l
      inside s = omega arith

      grow : take i l ≡ tabled i f → take i l ++ (x ∷ []) ≡ tabled i f ++ (f i ∷ [])
      grow p = cc

  pub tabling_end : (l : List A) (i : ℕ) → Tabling l i → length l₀ ≤ i → l ≡ tabled (length l₀) f
  tabling_end l i F h = sym (take_all i l (over F.size)) ∙ F.head ∙ ap (λ (n : ℕ). tabled n f) (same F.low)
    where
      over : length l ≡ length l₀ → length l ≤ i
      over s = omega arith

      same : i ≤ length l₀ → i ≡ length l₀
      same z = omega arith
