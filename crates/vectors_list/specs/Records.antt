-- "little-endian 32-bit words, in records: op n w1 .. wn"
use Rattle.std.specs.Prelude.{ℕ, ◌+◌, ◌≡◌, List, length, get_or, take, drop, eqb}
use Rattle.vectors_list.specs.declared.Record.{Record}

-- the first record of the words, and the words after it
pub record First (words : List ℕ) (r : Record) (rest : List ℕ) : Type 0 where
  pub op : r.op ≡ get_or words 0 0
  pub listed : r.words.now ≡ take (get_or words 1 0) (drop 2 words)
  pub whole : r.whole ≡ eqb (length r.words.now) (get_or words 1 0)
  pub following : rest ≡ drop (2 + get_or words 1 0) words
