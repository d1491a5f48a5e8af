use mathlib.Core.Path.{◌≡◌}
use Prim.Native.Nat.{◌≤◌, ◌-◌}
use lib.ListN.{length}
use Rattle.builder_fans.specs.Chains.{marked}
use Rattle.ring.specs.Ring.{ring}
use Rattle.builder_fans.proofs.mark_fans.Given as goal

abbrev pub invariant-loop-v : goal.invariant-loop-v
invariant-loop-v l = (length l.cm ≡ length l.initial.cm) × (l.v ≤ l.v-end) × (marked (ring l.co l.n) l.vc (l.v-end - l.v) l.v l.cm ≡ marked (ring l.co l.n) l.vc l.v-end 0 l.initial.cm)
