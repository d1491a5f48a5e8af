use mathlib.Core.Path.{◌≡◌}
use Prim.Native.Nat.{◌≤◌, ◌-◌}
use lib.ListN.{length}
use Rattle.builder_build.specs.Build.{isolated}
use Rattle.builder_fans.proofs.isolate.Given as goal

abbrev pub invariant-loop-v : goal.invariant-loop-v
invariant-loop-v l = (length l.vm ≡ length l.initial.vm) × (l.v ≤ l.v-end) × (isolated l.vc (l.v-end - l.v) l.v l.vm ≡ isolated l.vc l.v-end 0 l.initial.vm)
