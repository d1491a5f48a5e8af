-- `checker_quick::passes` meets its contract: the tests that are settled pass at every slot, or nothing is said.
use Prim.Native.Nat.{ℕ, ◌<◌}
use mathlib.Core.Path.{subst}
use Rattle.table.specs.Parts.{seen}
use Rattle.table.specs.declared.Seen.{Seen}
use Rattle.checker_quick.specs.Fits.{Fits}
use Rattle.checker_quick.proofs.Quick.{settles}
use Rattle.checker_quick.proofs.passes.Goals as goal

pub returns-then-marks_fit : goal.returns-then-marks_fit
returns-then-marks_fit c =
    λ e.
    let is = c.in-Some.ensures in
    let faces = subst (λ (t : Seen). (i : ℕ) → i < t.corners → Fits (seen t) i) is.0 (c.faces_fit.ensures e) in
    settles (seen c.args.t.now) is.1 (c.marks_fit.ensures c.if-marks_fit.true) faces
