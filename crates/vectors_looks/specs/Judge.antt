-- Whether what a call handed back is what its record lists.
use Rattle.std.specs.Prelude.{ℕ, ◌+◌, Bool, ◌&&◌, cond, List, eqb, get_or}
use Rattle.checker.specs.Verdict.{Verdict}
use Rattle.walker.specs.Walker.{Moved}

unfoldable pub word_is : List ℕ → ℕ → ℕ → Bool
word_is w k v = eqb (get_or w k 0) v

unfoldable pub two_are : List ℕ → ℕ → ℕ → ℕ → Bool
two_are w k a b = word_is w k a && word_is w (k + 1) b

unfoldable pub three_are : List ℕ → ℕ → ℕ → ℕ → ℕ → Bool
three_are w k a b c = two_are w k a b && word_is w (k + 2) c

-- 5 check: "answer, rule, slot"
unfoldable pub checked_as : List ℕ → Verdict → Bool
checked_as w v = three_are w 0 v.answer v.rule v.slot

-- 7 ring: after the kind and the vertex "answer, visited, written"
unfoldable pub ringed_as : List ℕ → (answer visited written : ℕ) → Bool
ringed_as w a v n = three_are w 2 a v n

-- 8 move: after the kind and the corner "answer, moved (0/1), corner after"
abbrev pub bit_of : Bool → ℕ
bit_of b = cond b 1 0

unfoldable pub moved_as : List ℕ → Moved → Bool
moved_as w m = three_are w 2 m.step.answer (bit_of m.step.moved) m.corner.0
