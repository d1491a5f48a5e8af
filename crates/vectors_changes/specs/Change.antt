-- Records 1, 2 and 3: what each leaves of the current table.
use Rattle.std.specs.Prelude.{ℕ, ◌+◌, Bool, ◌&&◌, cond, List, eqb, ltb, Float, length, get_or, set}
use Rattle.std.specs.Float.Ieee.{of_bits}
use Rattle.std.specs.Float.{binary32}
use Rattle.table.specs.Slots.{blanked}
use Rattle.table.specs.Table.{Table, table, with_counts}
use Rattle.words.specs.Same.{one_unless}
use Rattle.vectors_changes.specs.declared.Rooms.{Rooms}

-- the table that a record leaves, and 1 where it came out otherwise than listed
pub record Played : Type 0 where
  pub wrong : ℕ
  pub left : Table

abbrev pub played : ℕ → Table → Played
played wrong t = record { wrong = wrong; left = t }

-- "1 rooms: six pairs: length, fill: part k gets that length, and every entry of it the fill; both counts become 0." Any other record keeps
-- the lengths
unfoldable pub rooms_after : ℕ → List ℕ → Rooms → Rooms
rooms_after op w old =
    cond (eqb op 1)
    (record { cv = get_or w 0 0; co = get_or w 2 0; cm = get_or w 4 0; vc = get_or w 6 0; vm = get_or w 8 0; vp = get_or w 10 0 })
    old

-- the pair from word i on: whether a part has that length, and the part with the fill everywhere
unfoldable pub room_as : {A : Type 0} → List ℕ → ℕ → List A → Bool
room_as w i l = eqb (length l) (get_or w i 0)

unfoldable pub filled_as : List ℕ → ℕ → List ℕ → List ℕ
filled_as w i l = blanked (get_or w (i + 1) 0) l

-- a number is listed as its bits
unfoldable pub points_as : List ℕ → ℕ → List Float → List Float
points_as w i l = blanked (of_bits binary32 (get_or w (i + 1) 0)) l

unfoldable pub rooms_right : List ℕ → (cv co cm vc vm vp : Bool) → Bool
rooms_right w cv co cm vc vm vp = (((cv && co) && (cm && vc)) && (vm && vp)) && eqb (length w) 12

unfoldable pub rooms_left : (cv co cm vc vm : List ℕ) → (vp : List Float) → List ℕ → Played
rooms_left cv co cm vc vm vp w =
    played
    (one_unless (rooms_right w (room_as w 0 cv) (room_as w 2 co) (room_as w 4 cm) (room_as w 6 vc) (room_as w 8 vm) (room_as w 10 vp)))
    (table (filled_as w 0 cv) (filled_as w 2 co) (filled_as w 4 cm) (filled_as w 6 vc) (filled_as w 8 vm) (points_as w 10 vp) 0 0)

-- "2 counts: vertices, corners: sets the two counts"
abbrev pub counts_right : List ℕ → Bool
counts_right w = eqb (length w) 2

abbrev pub counts_left : Table → List ℕ → Played
counts_left t w = played (one_unless (counts_right w)) (with_counts t (get_or w 0 0) (get_or w 1 0))

-- "3 put: part, index, value: writes one entry of a part": what it makes of part k
unfoldable pub put_as : List ℕ → ℕ → List ℕ → List ℕ
put_as w k l = cond (eqb (get_or w 0 0) k) (set l (get_or w 1 0) (get_or w 2 0)) l

unfoldable pub put_number_as : List ℕ → ℕ → List Float → List Float
put_number_as w k l = cond (eqb (get_or w 0 0) k) (set l (get_or w 1 0) (of_bits binary32 (get_or w 2 0))) l

unfoldable pub put_right : List ℕ → Bool
put_right w = ltb (get_or w 0 0) 6 && eqb (length w) 3

unfoldable pub put_made : Table → List ℕ → Table
put_made t w =
    table
    (put_as w 0 t.corner_vertex)
    (put_as w 1 t.corner_opposite)
    (put_as w 2 t.corner_mark)
    (put_as w 3 t.vertex_corner)
    (put_as w 4 t.vertex_mark)
    (put_number_as w 5 t.vertex_point)
    t.vertices
    t.corners

abbrev pub put_left : Table → List ℕ → Played
put_left t w = played (one_unless (put_right w)) (put_made t w)
