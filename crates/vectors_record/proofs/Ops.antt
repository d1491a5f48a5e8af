-- A word asks for what its op asks for: the definitions at the op's number are those at the word.
use Prim.Native.Nat.{ℕ, zero, suc}
use mathlib.Core.Path.{◌≡◌, refl}
use mathlib.Core.Bool.{false}
use borrow.Author.Tests.{ne_eqb}
use native.Mathlib.Omega.{arith}
use Rattle.std.specs.Prelude.{eqb, ◌<◌}
use mathlib.Core.List.{List}
use Rattle.table.specs.Table.{Table}
use Rattle.vectors_list.specs.Op.{number_of, op_of}
use Rattle.vectors_looks.specs.Look.{look_right}
use Rattle.vectors_changes.specs.declared.Rooms.{Rooms}
use Rattle.vectors_changes.specs.Change.{rooms_after}
use Rattle.vectors_record.specs.Record.{record_left}
use Rattle.vectors_record.specs.Replay.{number_count, list_count}

far : (k n : ℕ) → n < 10 → eqb (suc (suc (suc (suc (suc (suc (suc (suc (suc (suc k)))))))))) n ≡ false
far k n h = ne_eqb (suc (suc (suc (suc (suc (suc (suc (suc (suc (suc k)))))))))) n (λ e. omega arith)

module _ (w : List ℕ) where
  pub same_rooms : (k : ℕ) → (old : Rooms) → rooms_after (number_of (op_of k)) w old ≡ rooms_after k w old
  unfolding op_of rooms_after
  same_rooms zero old = refl
  same_rooms (suc zero) old = refl
  same_rooms (suc (suc zero)) old = refl
  same_rooms (suc (suc (suc zero))) old = refl
  same_rooms (suc (suc (suc (suc zero)))) old = refl
  same_rooms (suc (suc (suc (suc (suc zero))))) old = refl
  same_rooms (suc (suc (suc (suc (suc (suc zero)))))) old = refl
  same_rooms (suc (suc (suc (suc (suc (suc (suc zero))))))) old = refl
  same_rooms (suc (suc (suc (suc (suc (suc (suc (suc zero)))))))) old = refl
  same_rooms (suc (suc (suc (suc (suc (suc (suc (suc (suc zero))))))))) old = refl
  same_rooms (suc (suc (suc (suc (suc (suc (suc (suc (suc (suc k)))))))))) old =
      rw (far k 1 (omega arith), far k 2 (omega arith), far k 3 (omega arith), far k 4 (omega arith), far k 5 (omega arith), far k 6 (omega arith), far k 7 (omega arith), far k 8 (omega arith), far k 9 (omega arith))

  pub same_number_count : (k : ℕ) → number_count (number_of (op_of k)) w ≡ number_count k w
  unfolding op_of number_count
  same_number_count zero = refl
  same_number_count (suc zero) = refl
  same_number_count (suc (suc zero)) = refl
  same_number_count (suc (suc (suc zero))) = refl
  same_number_count (suc (suc (suc (suc zero)))) = refl
  same_number_count (suc (suc (suc (suc (suc zero))))) = refl
  same_number_count (suc (suc (suc (suc (suc (suc zero)))))) = refl
  same_number_count (suc (suc (suc (suc (suc (suc (suc zero))))))) = refl
  same_number_count (suc (suc (suc (suc (suc (suc (suc (suc zero)))))))) = refl
  same_number_count (suc (suc (suc (suc (suc (suc (suc (suc (suc zero))))))))) = refl
  same_number_count (suc (suc (suc (suc (suc (suc (suc (suc (suc (suc k)))))))))) =
      rw (far k 1 (omega arith), far k 2 (omega arith), far k 3 (omega arith), far k 4 (omega arith), far k 5 (omega arith), far k 6 (omega arith), far k 7 (omega arith), far k 8 (omega arith), far k 9 (omega arith))

  pub same_list_count : (k : ℕ) → list_count (number_of (op_of k)) w ≡ list_count k w
  unfolding op_of list_count
  same_list_count zero = refl
  same_list_count (suc zero) = refl
  same_list_count (suc (suc zero)) = refl
  same_list_count (suc (suc (suc zero))) = refl
  same_list_count (suc (suc (suc (suc zero)))) = refl
  same_list_count (suc (suc (suc (suc (suc zero))))) = refl
  same_list_count (suc (suc (suc (suc (suc (suc zero)))))) = refl
  same_list_count (suc (suc (suc (suc (suc (suc (suc zero))))))) = refl
  same_list_count (suc (suc (suc (suc (suc (suc (suc (suc zero)))))))) = refl
  same_list_count (suc (suc (suc (suc (suc (suc (suc (suc (suc zero))))))))) = refl
  same_list_count (suc (suc (suc (suc (suc (suc (suc (suc (suc (suc k)))))))))) =
      rw (far k 1 (omega arith), far k 2 (omega arith), far k 3 (omega arith), far k 4 (omega arith), far k 5 (omega arith), far k 6 (omega arith), far k 7 (omega arith), far k 8 (omega arith), far k 9 (omega arith))

  pub same_record : (k : ℕ) → (t : Table) (n l : ℕ) → record_left (number_of (op_of k)) t w n l ≡ record_left k t w n l
  unfolding op_of record_left look_right
  same_record zero t n l = refl
  same_record (suc zero) t n l = refl
  same_record (suc (suc zero)) t n l = refl
  same_record (suc (suc (suc zero))) t n l = refl
  same_record (suc (suc (suc (suc zero)))) t n l = refl
  same_record (suc (suc (suc (suc (suc zero))))) t n l = refl
  same_record (suc (suc (suc (suc (suc (suc zero)))))) t n l = refl
  same_record (suc (suc (suc (suc (suc (suc (suc zero))))))) t n l = refl
  same_record (suc (suc (suc (suc (suc (suc (suc (suc zero)))))))) t n l = refl
  same_record (suc (suc (suc (suc (suc (suc (suc (suc (suc zero))))))))) t n l = refl
  same_record (suc (suc (suc (suc (suc (suc (suc (suc (suc (suc k)))))))))) t n l =
      rw (far k 1 (omega arith), far k 2 (omega arith), far k 3 (omega arith), far k 4 (omega arith), far k 5 (omega arith), far k 6 (omega arith), far k 7 (omega arith), far k 8 (omega arith), far k 9 (omega arith))
