-- The lent table, as the table that its six parts and its counts make.
use Rattle.std.specs.Prelude.{◌≡◌}
use Rattle.table.specs.declared.Lent.{Lent}
use Rattle.table.specs.declared.Seen.{Seen}
use Rattle.table.specs.Table.{Table, table}

abbrev pub lent : Lent → Table
lent t = table t.cv.now t.co.now t.cm.now t.vc.now t.vm.now t.vp.now t.vertices t.corners

abbrev pub seen : Seen → Table
seen t = table t.cv.now t.co.now t.cm.now t.vc.now t.vm.now t.vp.now t.vertices t.corners

-- the parts are still those that were lent: what is written to them reaches the lender
abbrev pub SameParts : Lent → Lent → Type 0
SameParts s t =
    (t.cv.ghost_name ≡ s.cv.ghost_name) × (t.co.ghost_name ≡ s.co.ghost_name) × (t.cm.ghost_name ≡ s.cm.ghost_name)
    × (t.vc.ghost_name ≡ s.vc.ghost_name) × (t.vm.ghost_name ≡ s.vm.ghost_name) × (t.vp.ghost_name ≡ s.vp.ghost_name)
