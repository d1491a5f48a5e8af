use Rattle.std.proofs.Common.{◌≡◌}
use Rattle.words.specs.Words.{written, word_no}
use Rattle.words.proofs.Loops.{Left}
use Rattle.words.proofs.decode.Given as goal

-- after k turns 4 k bytes are read, and the first k words are written
abbrev pub invariant-loop-k : goal.invariant-loop-k
invariant-loop-k l =
    (l.k-iterator.iter.size ≡ 4) × Left l.s l.k-iterator.iter.rest.now l.k-iterator.count
    × (l.words ≡ written l.k-iterator.count l.base (word_no l.s) l.initial.words)
