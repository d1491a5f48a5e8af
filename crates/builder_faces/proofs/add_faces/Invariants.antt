use Prim.Native.Nat.{◌*◌}
use Rattle.builder_faces.proofs.Adding.{Adding}
use Rattle.builder_faces.proofs.add_faces.Given as goal

abbrev pub invariant-loop-a : goal.invariant-loop-a
invariant-loop-a l = Adding l.count l.room l.faces l.initial.cv l.initial.co l.initial.vc l.cv l.co l.vc (3 * l.a-index) l.added.corners l.added.skipped
