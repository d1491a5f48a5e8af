-- The lent table in a contract of a call from C: its six parts and its counts. Lent to be written (by `&mut`), before and after a call;
-- lent to be read (by `&`), as they are seen.
use Rattle.std.specs.Prelude.{ℕ, List, Float}
use Rattle.std.specs.Borrow.{Bor, MutBor}
use denote.Triple.Both.{Both}
use Rattle.table.specs.Table.{Table, table}

module _ {A B C D E F : Type 0} where
  abbrev pub before : Both (MutBor (List ℕ)) A → Both (MutBor (List ℕ)) B → Both (MutBor (List ℕ)) C → Both (MutBor (List ℕ)) D
      → Both (MutBor (List ℕ)) E → Both (MutBor (List Float)) F → (vertices corners : ℕ) → Table
  before cv co cm vc vm vp nv nc = table cv.entry.now co.entry.now cm.entry.now vc.entry.now vm.entry.now vp.entry.now nv nc

  abbrev pub after : Both A (MutBor (List ℕ)) → Both B (MutBor (List ℕ)) → Both C (MutBor (List ℕ)) → Both D (MutBor (List ℕ))
      → Both E (MutBor (List ℕ)) → Both F (MutBor (List Float)) → (vertices corners : ℕ) → Table
  after cv co cm vc vm vp nv nc = table cv.exit.now co.exit.now cm.exit.now vc.exit.now vm.exit.now vp.exit.now nv nc

  abbrev pub seen : Both (Bor (List ℕ)) A → Both (Bor (List ℕ)) B → Both (Bor (List ℕ)) C → Both (Bor (List ℕ)) D → Both (Bor (List ℕ)) E
      → Both (Bor (List Float)) F → (vertices corners : ℕ) → Table
  seen cv co cm vc vm vp nv nc = table cv.entry.now co.entry.now cm.entry.now vc.entry.now vm.entry.now vp.entry.now nv nc
