-- Document 01, "The script": "a lent list of 32-bit words, five to a command: kind, target (an edge's corner; for 4 a face number), and the
-- bits of x, y, z".
use Rattle.std.specs.Prelude.{ℕ, ◌+◌, ◌*◌, cond, List, eqb, get_or}
use Rattle.vertex.specs.declared.Point.{Point}
use Rattle.vertex.specs.Point.{point_of_bits}
use Rattle.script_command.specs.declared.Edit.{Edit}
use Rattle.script_command.specs.declared.Edit.TheVariants.{Collapse, Flip, SplitEdge, SplitFace, Unknown}

-- "1 collapse edge, 2 flip edge, 3 split edge, 4 split face"
unfoldable pub decoded : ℕ → ℕ → Point → Edit
decoded kind target p =
    cond (eqb kind 1) (Collapse (record { 0 = target }) p)
    (cond (eqb kind 2) (Flip (record { 0 = target }))
    (cond (eqb kind 3) (SplitEdge (record { 0 = target }) p)
    (cond (eqb kind 4) (SplitFace (record { 0 = target }) p) Unknown)))

-- command i of a script
unfoldable pub command_at : List ℕ → ℕ → Edit
command_at s i =
    decoded (get_or s (5 * i) 0) (get_or s (5 * i + 1) 0) (point_of_bits (get_or s (5 * i + 2) 0) (get_or s (5 * i + 3) 0) (get_or s (5 * i + 4) 0))
