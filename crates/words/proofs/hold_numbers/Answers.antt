use borrow.Author.Rules.{rules}
use lib.Dec.{eqb}
use Rattle.std.specs.Float.Ieee.{to_bits, of_bits}
use Rattle.std.specs.Float.{binary32}
use Rattle.table.specs.Slots.{nought}
use Rattle.words.specs.Same.{hold_numbers_of, same_number}
use Rattle.words.proofs.hold_numbers.Goals as goal

pub returns : goal.returns
unfolding hold_numbers_of same_number
returns c = c.holds_same.ensures nought (λ x y. eqb (to_bits binary32 x) (to_bits binary32 (of_bits binary32 y))) (λ x y r h. search rules)
