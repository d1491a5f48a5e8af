-- What is counted beside the wrong records. A count is held at the most that its slot can say.
use Rattle.std.specs.Prelude.{ℕ, ◌+◌, cond, List, ltb, get_or, set}

abbrev pub upped : ℕ → ℕ
upped n = cond (ltb n 4294967295) (n + 1) n

unfoldable pub bumped : List ℕ → ℕ → List ℕ
bumped l i = set l i (upped (get_or l i 0))
