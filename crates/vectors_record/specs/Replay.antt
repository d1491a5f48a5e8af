-- A record on parts at their largest: what it is lent of them, and what it leaves.
use Rattle.std.specs.Prelude.{ℕ, cond, List, ◌≡◌, eqb, get_or, take, drop}
use Rattle.table.specs.Table.{Table, table}
use Rattle.vectors_changes.specs.declared.Rooms.{Rooms}
use Rattle.vectors_changes.specs.Change.{played}
use Rattle.vectors_calls.specs.Calls.{answer_room}
use Rattle.vectors_record.specs.Record.{record_left}

-- "4 build: .. p", "6 run: .. a", "7 ring: .. l": how many numbers and how long a list a record asks for
unfoldable pub number_count : ℕ → List ℕ → ℕ
number_count op w = cond (eqb op 4) (get_or w 4 0) 0

unfoldable pub list_count : ℕ → List ℕ → ℕ
list_count op w = cond (eqb op 6) (answer_room w) (cond (eqb op 7) (get_or w 5 0) 0)

-- "six parts with their lengths": of parts at their largest, the entries of these lengths, and those after them
unfoldable pub within : Rooms → Table → Table
within n t =
    table
    (take n.cv t.corner_vertex)
    (take n.co t.corner_opposite)
    (take n.cm t.corner_mark)
    (take n.vc t.vertex_corner)
    (take n.vm t.vertex_mark)
    (take n.vp t.vertex_point)
    t.vertices
    t.corners

unfoldable pub beyond : Rooms → Table → Table
beyond n t =
    table
    (drop n.cv t.corner_vertex)
    (drop n.co t.corner_opposite)
    (drop n.cm t.corner_mark)
    (drop n.vc t.vertex_corner)
    (drop n.vm t.vertex_mark)
    (drop n.vp t.vertex_point)
    0
    0

-- the contract of a record: what it leaves of the current table t and whether it is wrong are the definition's, and the entries after the
-- table's lengths stay
pub record Replayed (n : Rooms) (op : ℕ) (t : Table) (w : List ℕ) (numbers list wrong : ℕ) (u : Table) : Type 0 where
  pub leaves : played wrong (within n u) ≡ record_left op (within n t) w numbers list
  pub keeps : beyond n u ≡ beyond n t
