use Rattle.table.specs.Parts.{seen}
use Rattle.checker_quick.specs.Fits.{Fits}
use Prim.Native.Nat.{ℕ, ◌*◌, ◌<◌}
use Rattle.checker_quick.proofs.Used.faces_fit.Given as goal

abbrev pub invariant-loop-f : goal.invariant-loop-f
invariant-loop-f l = (i : ℕ) → i < 3 * l.f → Fits (seen l.self.t) i
