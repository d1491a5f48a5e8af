-- Any record: docs/FORMATS.md, "The stored list".
use Rattle.std.specs.Prelude.{ℕ, cond, List, eqb}
use Rattle.table.specs.Table.{Table}
use Rattle.words.specs.Same.{one_unless}
use Rattle.vectors_looks.specs.Look.{look_right}
use Rattle.vectors_changes.specs.Change.{Played, played, rooms_left, counts_left, put_left}
use Rattle.vectors_calls.specs.Calls.{build_left, run_left}

-- "A record works on the current table": what record op with words w leaves of table t, with room for so many numbers and a list so long
unfoldable pub record_left : (op : ℕ) → Table → List ℕ → (numbers list : ℕ) → Played
record_left op t w n l =
    cond (eqb op 1)
    (rooms_left t.corner_vertex t.corner_opposite t.corner_mark t.vertex_corner t.vertex_mark t.vertex_point w)
    (cond (eqb op 2) (counts_left t w)
    (cond (eqb op 3) (put_left t w)
    (cond (eqb op 4) (build_left t w n) (cond (eqb op 6) (run_left t w l) (played (one_unless (look_right op t l w)) t)))))
