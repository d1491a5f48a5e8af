-- What a record asks for: docs/FORMATS.md, "The stored list". Any other op asks for nothing that is known.
use Rattle.std.specs.Prelude.{ℕ, cond, eqb}
use Rattle.vectors_list.specs.declared.Op.{Op}
use Rattle.vectors_list.specs.declared.Op.TheVariants.{Rooms, Counts, Put, Build, Check, Run, Ring, Move, Slots, Unknown}

abbrev pub number_of : Op → ℕ
number_of Rooms = 1
number_of Counts = 2
number_of Put = 3
number_of Build = 4
number_of Check = 5
number_of Run = 6
number_of Ring = 7
number_of Move = 8
number_of Slots = 9
number_of Unknown = 0

unfoldable pub op_of : ℕ → Op
op_of k =
    cond (eqb k 1) Rooms
    (cond (eqb k 2) Counts
    (cond (eqb k 3) Put
    (cond (eqb k 4) Build
    (cond (eqb k 5) Check (cond (eqb k 6) Run (cond (eqb k 7) Ring (cond (eqb k 8) Move (cond (eqb k 9) Slots Unknown))))))))
