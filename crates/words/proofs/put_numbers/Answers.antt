use Rattle.words.proofs.Loops.{tabling_start, tabling_on, tabling_end}
use Rattle.words.specs.Words.{number_no}
use native.Mathlib.Omega.{arith}
use Rattle.words.proofs.put_numbers.Goals as goal

pub loop-k-init : goal.loop-k-init
loop-k-init c = tabling_start _ _

pub loop-k-preserved : goal.loop-k-preserved
unfolding number_no
loop-k-preserved c = tabling_on _ _ _ _ _ c.loop-k.invariant (omega (arith, c.loop-k.invariant.size)) (cc)

pub returns : goal.returns
returns c = tabling_end _ _ _ _ c.loop-k.invariant (omega (arith, c.loop-k.invariant.size))
