use Rattle.script.proofs.Loop.{running_more, running_end}
use borrow.Author.Rules.{rules}
use Rattle.script.proofs.run_commands.Goals as goal

pub loop-i-preserved : goal.loop-i-preserved
loop-i-preserved c =
    let k = c.loop-i in (
      running_more _ _ _ _ c.requires.good k.i k.answers _ _ _ _ _ k.invariant.0 c.loop-i-test.true c.decode.ensures c.step-done.ensures.stepped
          (rw c.answer.ensures at c.put.ensures),
      search rules,
    )

pub returns-clause-completed : goal.returns-clause-completed
returns-clause-completed c = let k = c.loop-i in running_end _ _ _ _ c.requires.good k.i k.answers _ k.invariant.0 c.loop-i-test.false
