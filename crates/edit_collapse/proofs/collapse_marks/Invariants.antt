use Rattle.std.proofs.Common.{◌≡◌, take}
use Rattle.edit_collapse.proofs.Marks.{marked}
use Rattle.edit_collapse.proofs.collapse_marks.Given as goal

abbrev pub invariant-loop-c : goal.invariant-loop-c
invariant-loop-c l = l.cm ≡ marked (take l.c-index l.c-items) l.initial.cm
