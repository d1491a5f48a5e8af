use Rattle.words.proofs.Loops.{left_all, left_more, left_word, written_none, written_more}
use native.Mathlib.Omega.{arith}
use mathlib.Core.Path.{◌∙◌}
use Prim.Native.Nat.{◌+◌}
use Rattle.words.proofs.decode.Goals as goal

pub loop-k-init : goal.loop-k-init
loop-k-init c =
    rw (c.into_iter-k-iterator.ensures.into_iter_gives, c.enumerate-k-items.ensures.source, c.enumerate-k-items.ensures.count, c.chunks_exact.ensures.rest)
    (c.chunks_exact.ensures.size, left_all _, written_none _ _ _)

pub loop-k-preserved : goal.loop-k-preserved
loop-k-preserved c =
    let a = c.in-Some.ensures.steps in
    let i = c.loop-k.invariant in
    rw a.2 (
      a.0.0 ∙ i.0,
      left_more _ _ _ _ _ i.1 a.0.1.0 (a.0.1.1 ∙ i.0),
      written_more _ _ _ _ (c.args.base + c.in-Some.k) _ _ _ i.2
          (c.word_of.ensures ∙ left_word _ _ _ _ _ i.1 a.0.1.0 (a.0.1.1 ∙ i.0)) (omega (arith, a.1)) c.put.ensures,
    )
