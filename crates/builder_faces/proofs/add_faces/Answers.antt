use Prim.Native.Nat.{◌+◌, ◌*◌, ◌/◌, ◌<◌}
use native.Mathlib.Omega.{arith}
use lib.ListN.{length}
use Rattle.std.proofs.Common.{rules, Err, ◌≡◌}
use Rattle.builder_faces.proofs.Adding.{triple_face, adding_stop, adding_on, adding_end}
use Rattle.builder_faces.proofs.add_faces.Goals as goal

pub loop-a-preserved : goal.loop-a-preserved
loop-a-preserved c =
    let k = c.loop-a in
    let f = c.add_face in
    let n : k.a-index < length c.args.faces.now / 3 = omega (arith, c.as_chunks.ensures.front_len) in
    let z : 3 * k.a-index + 3 ≡ 3 * (k.a-index + 1) = omega arith in
    rw (← z)
    (adding_on _ _ _ _ _ _ _ _ _ _ _ _ k.invariant (omega arith) _ _ _ _ _
    (triple_face _ _ _ _ _ _ c.as_chunks.ensures.front n _ c.in_ok-added.ensures) f.auto.cv f.auto.co f.auto.vc)

pub returns-in_err-added : goal.returns-in_err-added
returns-in_err-added c =
    let k = c.loop-a in
    let n : k.a-index < length c.args.faces.now / 3 = omega (arith, c.as_chunks.ensures.front_len) in
    let e : c.from_residual.result ≡ Err c.in_err-added.field-0.0 = search rules in
    rw e (adding_stop _ _ _ _ _ _ _ _ _ _ _ _ k.invariant (omega arith) _ (triple_face _ _ _ _ _ _ c.as_chunks.ensures.front n _ c.in_err-added.ensures))

pub returns : goal.returns
returns c = adding_end _ _ _ _ _ _ _ _ _ _ _ _ c.loop-a.invariant (omega (arith, c.as_chunks.ensures.front_len))
