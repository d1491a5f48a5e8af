use Rattle.std.proofs.Common.{◌≡◌, take}
use Rattle.table.specs.Slots.{stored}
use Rattle.table.proofs.put_new.Given as goal

abbrev pub invariant-loop-k : goal.invariant-loop-k
invariant-loop-k g l = l.l ≡ stored l.initial.l l.n (take l.k l.v-items)
