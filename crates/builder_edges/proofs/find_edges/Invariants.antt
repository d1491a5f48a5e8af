use Prim.Native.Nat.{◌*◌}
use Rattle.builder_edges.proofs.Searching.{Seeking}
use Rattle.builder_edges.proofs.find_edges.Given as goal

abbrev pub invariant-loop-k : goal.invariant-loop-k
invariant-loop-k l = Seeking l.cv l.n l.t.a.0 l.t.b.0 l.t.c.0 (3 * l.k) l.f
