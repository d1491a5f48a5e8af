-- Record 9: "part k must hold the m words and then, to its length, `rest` everywhere. Points are compared as bits; the bits of every
-- NaN count as 0x7fc00000." The lists of records 6 and 7 are compared in the same way.
use Rattle.std.specs.Prelude.{ℕ, zero, suc, Bool, true, ◌&&◌, cond, List, eqb, leb, Float, length, get_or}
use Rattle.std.specs.Float.Ieee.{to_bits, of_bits}
use Rattle.std.specs.Float.{binary32}
use Rattle.table.specs.Slots.{nought}

-- whether every number below n passes the test
unfoldable pub every : ℕ → (ℕ → Bool) → Bool
every zero test = true
every (suc n) test = test n && every n test

unfoldable pub same_word : List ℕ → List ℕ → ℕ → ℕ → Bool
same_word l w rest k = eqb (get_or l k 0) (get_or w k rest)

unfoldable pub same_number : List Float → List ℕ → ℕ → ℕ → Bool
same_number l w rest k = eqb (to_bits binary32 (get_or l k nought)) (to_bits binary32 (of_bits binary32 (get_or w k rest)))

unfoldable pub holds_of : List ℕ → List ℕ → ℕ → Bool
holds_of l w rest = leb (length w) (length l) && every (length l) (same_word l w rest)

unfoldable pub hold_numbers_of : List Float → List ℕ → ℕ → Bool
hold_numbers_of l w rest = leb (length w) (length l) && every (length l) (same_number l w rest)

-- a comparison that fails makes its record wrong
abbrev pub one_unless : Bool → ℕ
one_unless right = cond right 0 1
