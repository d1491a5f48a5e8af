use Rattle.words.proofs.Loops.{every_none, every_more, every_all, every_fails, told_at}
use native.Mathlib.Omega.{arith}
use borrow.Author.Tests.{le-leb}
use mathlib.Core.Path.{sym}
use Rattle.words.proofs.holds_same.Goals as goal

pub loop-k-init : goal.loop-k-init
loop-k-init g c = λ none p h. every_none _

pub loop-k-preserved : goal.loop-k-preserved
loop-k-preserved g c =
    λ none p h. every_more _ _ (c.loop-k.invariant none p h)
    (told_at c.args.l.now c.args.w.now _ none p c.loop-k.k _ _ _ _ (omega arith) c.index-l-k.is c.at.ensures (h _ _ _ c.same.ensures) c.if-not-same.false)

pub returns-then-not-same : goal.returns-then-not-same
returns-then-not-same g c =
    λ none p h. rw (le-leb _ _ c.if-w-l.false)
    (sym (every_fails _ _ c.loop-k.k (omega arith)
    (told_at c.args.l.now c.args.w.now _ none p c.loop-k.k _ _ _ _ (omega arith) c.index-l-k.is c.at.ensures (h _ _ _ c.same.ensures) c.if-not-same.true)))

pub returns : goal.returns
returns g c =
    λ none p h. rw (le-leb _ _ c.if-w-l.false) (sym (every_all _ c.loop-k.k _ (c.loop-k.invariant none p h) (omega arith)))
