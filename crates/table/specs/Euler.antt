-- Vertices, edges and faces. Document 01, "Well-formed", and demand 3.
use Rattle.std.specs.Prelude.{ℕ, zero, suc, ◌+◌, ◌/◌, Bool, cond, ◌&&◌, not, ◌≡◌, eqb}
use Rattle.corner.specs.Corner.{absent, first_corner}
use Rattle.table.specs.Table.{Table, live, opposite}

-- how many numbers below n pass a test
abbrev pub count : ℕ → (ℕ → Bool) → ℕ
count zero test = 0
count (suc n) test = count n test + cond (test n) 1 0

unfoldable pub vertex_count : Table → ℕ
vertex_count t = count t.vertices (live t.vertex_mark t.vertices)

unfoldable pub face_count : Table → ℕ
face_count t = count (t.corners / 3) (λ f. live t.corner_mark t.corners (first_corner f))

-- "Edges are live corners without opposite plus half of those with one."
unfoldable pub bare_count : Table → ℕ
bare_count t = count t.corners (λ c. live t.corner_mark t.corners c && eqb (opposite t c) absent)

unfoldable pub paired_count : Table → ℕ
paired_count t = count t.corners (λ c. live t.corner_mark t.corners c && not (eqb (opposite t c) absent))

unfoldable pub edge_count : Table → ℕ
edge_count t = bare_count t + paired_count t / 2

-- demand 3: V−E+F is what it was, without a difference: both sides have the other's edges added
abbrev pub SameEuler : Table → Table → Type 0
SameEuler t u = vertex_count u + face_count u + edge_count t ≡ vertex_count t + face_count t + edge_count u
