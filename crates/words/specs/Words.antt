-- The list's words: "little-endian 32-bit words, in records: op n w1 .. wn".
use Rattle.std.specs.Prelude.{ℕ, zero, suc, ◌+◌, ◌*◌, List, [], ◌∷◌, ◌++◌, Float, get_or, set}
use Rattle.std.specs.Float.Ieee.{of_bits}
use Rattle.std.specs.Float.{binary32}

abbrev pub word_of : ℕ → ℕ → ℕ → ℕ → ℕ
word_of a b c d = a + b * 256 + c * 65536 + d * 16777216

-- the word at byte i
abbrev pub word_at : List ℕ → ℕ → ℕ
word_at s i = word_of (get_or s i 0) (get_or s (i + 1) 0) (get_or s (i + 2) 0) (get_or s (i + 3) 0)

-- the k-th word of the bytes
unfoldable pub word_no : List ℕ → ℕ → ℕ
word_no s k = word_at s (4 * k)

-- the k-th float of a part that begins with the words' and then has that of `rest` everywhere
unfoldable pub number_no : List ℕ → ℕ → ℕ → Float
number_no w rest k = of_bits binary32 (get_or w k rest)

-- f 0, f 1, .. f (n - 1), written from entry `base` on
unfoldable pub written : {A : Type 0} → ℕ → ℕ → (ℕ → A) → List A → List A
written zero base f l = l
written (suc n) base f l = set (written n base f l) (base + n) (f n)

-- the list f 0, f 1, .. f (n - 1)
unfoldable pub tabled : {A : Type 0} → ℕ → (ℕ → A) → List A
tabled zero f = []
tabled (suc n) f = tabled n f ++ (f n ∷ [])
