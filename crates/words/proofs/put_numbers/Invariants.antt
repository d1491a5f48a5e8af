use Rattle.words.proofs.Loops.{Tabling}
use Rattle.words.specs.Words.{number_no}
use Rattle.words.proofs.put_numbers.Given as goal

abbrev pub invariant-loop-k : goal.invariant-loop-k
invariant-loop-k l = Tabling l.initial.to (number_no l.w l.rest) l.to l.k
