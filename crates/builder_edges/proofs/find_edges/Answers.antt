use Prim.Native.Nat.{◌+◌, ◌*◌}
use native.Mathlib.Omega.{arith}
use Rattle.std.proofs.Common.{◌≡◌}
use Rattle.builder_edges.proofs.Searching.{seeking_start, seeking_on, seeking_end}
use Rattle.builder_edges.proofs.find_edges.Goals as goal

pub loop-k-init : goal.loop-k-init
loop-k-init c = seeking_start _ _ _ _ _ c.requires.n_value c.requires.n_bound

pub loop-k-preserved : goal.loop-k-preserved
loop-k-preserved c =
    let i = c.loop-k.k in
    let z : 3 * i + 3 ≡ 3 * (i + 1) = omega arith in
    rw (← z) (seeking_on _ _ _ _ _ c.requires.n_value c.requires.n_bound _ _ c.loop-k.invariant (omega (arith, c.loop-k-test.true, c.requires.n_value)) _ c.look_face.ensures)

pub returns : goal.returns
returns c = seeking_end _ _ _ _ _ c.requires.n_value c.requires.n_bound _ _ c.loop-k.invariant (omega (arith, c.loop-k-test.false, c.requires.n_value))
