use mathlib.Core.Path.{◌≡◌}
use Prim.Native.Nat.{◌≤◌}
use lib.ListN.{length, drop}
use lib.Seq.{sets}
use Rattle.builder_faces.proofs.add_vertices.Given as goal

-- what is still to be laid makes of the list what all points make of the first
abbrev pub invariant-loop-k : goal.invariant-loop-k
invariant-loop-k l = (length l.vp ≡ length l.initial.vp) × (l.k ≤ l.k-end) × (sets l.vp l.k (drop l.k l.points) ≡ sets l.initial.vp 0 l.points)
