-- `checker_quick::Used::corner_fits` meets its contract.
use Rattle.checker_quick.proofs.Quick.{vertex_fits, differ_fits}
use Rattle.checker_quick.proofs.Used.corner_fits.Goals as goal
use Rattle.checker_quick.proofs.Used.corner_fits.Goals.{then-ne, else-ne}

pub returns-then-is_live : goal.returns-then-is_live
returns-then-is_live c =
    elim c.if-ne.branch [
      | then-ne w ↦
          λ o a b e.
          record {
            vertex = vertex_fits _ _ _ _ _ o _ _ _ (rw w.index.ensures at w.is_live.ensures) (cc);
            differ = differ_fits _ _ _ _ _ o _ _ w.if-ne.true c.ne.ensures a;
            opposite = c.edge_fits.ensures a b e;
          }
      | else-ne w ↦ absurd (cc)
    ]
