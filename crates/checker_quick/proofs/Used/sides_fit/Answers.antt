-- `checker_quick::Used::sides_fit` meets its contract: each corner knows its own vertex and those ahead and behind.
use Rattle.checker_quick.proofs.Quick.{sides}
use Rattle.checker_quick.proofs.Used.sides_fit.Goals as goal
use Rattle.checker_quick.proofs.Used.sides_fit.Goals.{then-corner_fits, else-corner_fits}

pub returns-then-corner_fits-2 : goal.returns-then-corner_fits-2
returns-then-corner_fits-2 c =
    elim c.if-corner_fits.branch [
      | then-corner_fits w ↦
          λ e.
          sides _ _ _ _ _ c.requires.0
          c.vertex_there-a.ensures c.vertex_there-b.ensures c.vertex_there-c.ensures
          (λ x y z. c.corner_fits.ensures x y z w.if-corner_fits.true)
          (λ x y z. w.corner_fits-then-corner_fits.ensures x y z (cc))
          (λ x y z. c.corner_fits-then-corner_fits-2.ensures x y z e)
      | else-corner_fits w ↦ absurd (cc)
    ]
