use borrow.Author.Rules.{rules}
use lib.Dec.{eqb}
use Rattle.words.specs.Same.{holds_of, same_word}
use Rattle.words.proofs.holds.Goals as goal

pub returns : goal.returns
unfolding holds_of same_word
returns c = c.holds_same.ensures 0 eqb (λ x y r h. search rules)
