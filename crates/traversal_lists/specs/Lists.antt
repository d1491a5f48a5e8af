-- The five lists of a walk, "in the Rust's order". Document 01, "Ring lists and the walker".
use Rattle.std.specs.Prelude.{ℕ, List, [], ◌∷◌, ◌++◌, map, Bool, true, false, not, cond}
use Rattle.corner.specs.Corner.{turn, face}
use Rattle.table.specs.Slots.{vertex_at}
use Rattle.traversal_visits.specs.Walk.{Walk, tangled, closed, open'}
use Rattle.traversal_lists.specs.declared.Kind.{Kind}
use Rattle.traversal_lists.specs.declared.Kind.TheVariants.{Corners, Vertices, Faces, Edges, BoundingEdges}

-- what a list has for a visited corner, on the left side and on the right: the corner; its face; the vertex across its edge to the
-- right (left side) or to the left (right side); that edge, "an edge as its corner alone"; the edge that bounds the ring there
unfoldable pub entry : Kind → List ℕ → Bool → ℕ → ℕ
entry Corners cv left c = c
entry Vertices cv left c = vertex_at cv (turn (not left) c)
entry Faces cv left c = face c
entry Edges cv left c = turn left c
entry BoundingEdges cv left c = c

-- the lists with one entry more than corners on a border: the first corner has one on both sides
unfoldable pub twice : Kind → Bool
twice Corners = false
twice Vertices = true
twice Faces = false
twice Edges = true
twice BoundingEdges = false

-- the entries of a whole walk
abbrev pub entries : Kind → List ℕ → Walk → List ℕ
entries kind cv tangled = []
entries kind cv (closed c l) = map (entry kind cv true) (c ∷ l)
entries kind cv (open' c l r) = map (entry kind cv true) (c ∷ l) ++ map (entry kind cv false) (cond (twice kind) (c ∷ r) r)
