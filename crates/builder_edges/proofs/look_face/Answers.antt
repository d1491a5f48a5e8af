use Rattle.std.proofs.Common.{sym, ◌∙◌}
use Rattle.builder_edges.proofs.Searching.{face_looked, face_untouched}
use Rattle.builder_edges.proofs.look_face.Goals as goal

pub returns-then-touches : goal.returns-then-touches
returns-then-touches c = face_looked _ _ _ _ _ _ _ _ _ c.vertex_of.ensures c.vertex_of-2.ensures c.vertex_of-3.ensures _ _ _ c.look-g.ensures c.look-h.ensures c.look.ensures

pub returns-else-touches : goal.returns-else-touches
returns-else-touches c = face_untouched _ _ _ _ _ _ _ _ _ c.vertex_of.ensures c.vertex_of-2.ensures c.vertex_of-3.ensures (sym c.touches.ensures ∙ c.if-touches.false)
