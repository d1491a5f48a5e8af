-- `checker_rules::near` meets its contract: the first turn of the walks, both of which stand at c.
use mathlib.Core.Path.{refl, sym, ◌∙◌}
use native.Mathlib.Omega.{arith}
use Rattle.checker_rules.proofs.Turns.{near_out, near_left, near_more}
use Rattle.checker_rules.proofs.near.Goals as goal

pub returns-then-hits : goal.returns-then-hits
returns-then-hits c =
    let z = c.args in
    c.if-hits.true
    ∙ near_left z.co.now z.s.0 z.c.0 z.room z.c.0 z.c.0 (omega arith) _ c.hits.ensures c.if-hits.true

pub returns-else-hits : goal.returns-else-hits
returns-else-hits c =
    let z = c.args in
    let h = c.hits.ensures in
    let no = c.if-hits.false in
    c.meets.ensures ∙ sym (near_more z.co.now z.s.0 z.c.0 z.room z.c.0 z.c.0 (omega arith) _ h no _ h _ _ refl refl no)

pub returns-else-room-ne0 : goal.returns-else-room-ne0
returns-else-room-ne0 c = rw c.if-room-ne0.false (near_out _ _ _ 0 _ _ (omega arith))
