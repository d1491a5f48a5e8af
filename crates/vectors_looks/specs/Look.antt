-- Records 5, 7, 8 and 9: whether each comes out as listed on the current table.
use Rattle.std.specs.Prelude.{ℕ, ◌+◌, Bool, false, ◌&&◌, cond, List, eqb, ltb, leb, Float, length, get_or, take, drop, replicate}
use Rattle.table.specs.Table.{Table}
use Rattle.traversal_lists.specs.Outcome.{RingOutcome}
use Rattle.traversal.specs.Ring.{ring_of}
use Rattle.traversal_lists.specs.declared.Kind.{Kind}
use Rattle.traversal_lists.specs.declared.Kind.TheVariants.{Corners, Vertices, Faces, Edges, BoundingEdges}
use Rattle.walker.specs.declared.Move.{Move}
use Rattle.walker.specs.declared.Move.TheVariants.{Next, Previous, Opposite, SwingLeft, SwingRight}
use Rattle.walker.specs.Walker.{Moved, to_next, to_previous, to_opposite, swung_left, swung_right}
use Rattle.checker.specs.Order.{verdict_of}
use Rattle.words.specs.Same.{holds_of, hold_numbers_of}
use Rattle.vectors_looks.specs.Judge.{word_is, checked_as, ringed_as, moved_as}

-- "5 check: answer, rule, slot: calls check"
unfoldable pub check_right : Table → List ℕ → Bool
check_right t w = checked_as w (verdict_of t) && eqb (length w) 3

-- "7 ring: kind (0 corners, 1 vertices, 2 faces, 3 edges, 4 bounding edges)"
unfoldable pub ring_kind_of : ℕ → Kind
ring_kind_of k = cond (eqb k 0) Corners (cond (eqb k 1) Vertices (cond (eqb k 2) Faces (cond (eqb k 3) Edges BoundingEdges)))

-- ".. vertex, answer, visited, written; l; fill; the words that the list of l entries must begin with, the rest of it holds the fill: calls a
-- ring", with a list of n entries
unfoldable pub ring_as : List ℕ → RingOutcome → Bool
ring_as w o =
    (ringed_as w o.answer o.visited o.written && holds_of o.list (drop 7 w) (get_or w 6 0))
    && (ltb (get_or w 0 0) 5 && word_is w 5 (length o.list))

unfoldable pub ring_right : Table → ℕ → List ℕ → Bool
ring_right t n w = ring_as w (ring_of (ring_kind_of (get_or w 0 0)) (get_or w 1 0) t (replicate n (get_or w 6 0)))

-- "8 move: kind (0 next, 1 previous, 2 opposite, 3 swing left, 4 swing right), corner, answer, moved (0/1), corner after"
unfoldable pub move_kind_of : ℕ → Move
move_kind_of k = cond (eqb k 0) Next (cond (eqb k 1) Previous (cond (eqb k 2) Opposite (cond (eqb k 3) SwingLeft SwingRight)))

unfoldable pub move_of : ℕ → Table → ℕ → Moved
move_of k t c =
    cond (eqb k 0) (to_next t c)
    (cond (eqb k 1) (to_previous t c) (cond (eqb k 2) (to_opposite t c) (cond (eqb k 3) (swung_left t c) (swung_right t c))))

unfoldable pub move_right : Table → List ℕ → Bool
move_right t w = (moved_as w (move_of (get_or w 0 0) t (get_or w 1 0)) && ltb (get_or w 0 0) 5) && eqb (length w) 5

-- "9 slots: for part 0..5 in turn: rest, m, m words": the words from the next part on, whether all m are there, and whether the part holds
-- them
unfoldable pub next_part : List ℕ → List ℕ
next_part w = drop (2 + get_or w 1 0) w

unfoldable pub whole_part : List ℕ → Bool
whole_part w = leb (2 + get_or w 1 0) (length w)

unfoldable pub part_right : List ℕ → List ℕ → Bool
part_right l w = whole_part w && holds_of l (take (get_or w 1 0) (drop 2 w)) (get_or w 0 0)

unfoldable pub points_right : List Float → List ℕ → Bool
points_right l w = whole_part w && hold_numbers_of l (take (get_or w 1 0) (drop 2 w)) (get_or w 0 0)

unfoldable pub corners_right : List ℕ → List ℕ → List ℕ → List ℕ → Bool
corners_right cv co cm w = (part_right cv w && part_right co (next_part w)) && part_right cm (next_part (next_part w))

-- the points are the last, and nothing follows them
unfoldable pub vertices_right : List ℕ → List ℕ → List Float → List ℕ → Bool
vertices_right vc vm vp w =
    (part_right vc w && part_right vm (next_part w)) && (points_right vp (next_part (next_part w)) && eqb (length (next_part (next_part (next_part w)))) 0)

unfoldable pub slots_right : (cv co cm vc vm : List ℕ) → (vp : List Float) → List ℕ → Bool
slots_right cv co cm vc vm vp w = corners_right cv co cm w && vertices_right vc vm vp (next_part (next_part (next_part w)))

-- a record that changes nothing, with a list of n entries. An unknown op is wrong
unfoldable pub look_right : (op : ℕ) → Table → (n : ℕ) → List ℕ → Bool
look_right op t n w =
    cond (eqb op 5) (check_right t w)
    (cond (eqb op 7) (ring_right t n w)
    (cond (eqb op 8) (move_right t w)
    (cond (eqb op 9)
    (slots_right t.corner_vertex t.corner_opposite t.corner_mark t.vertex_corner t.vertex_mark t.vertex_point w)
    false)))
