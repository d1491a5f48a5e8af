-- A command that answers 0 has passed its checks, so its effect keeps a well-formed table. Assumes nothing.
use mathlib.Core.Path.{◌≡◌, refl}
use mathlib.Core.Bool.{cond}
use native.Mathlib.Omega.{arith}
use native.Mathlib.Decide.{ℕ_discrete}
use borrow.Author.Tests.{eq-eqb, ne_eqb}
use lib.Dec.{eqb}
use Rattle.table.specs.Table.{Table, Shaped}
use Rattle.table.specs.Rules.{WellFormed}
use Rattle.edit_keeps.specs.Keeps.{Kept}
use Rattle.edit_keeps.proofs.Kept.{flip_kept, collapse_kept, face_kept, edge_kept}
use Rattle.script_command.specs.declared.Edit.{Edit}
use Rattle.script_command.specs.declared.Edit.TheVariants.{Collapse, Flip, SplitEdge, SplitFace, Unknown}
use Rattle.script_answers.specs.Answers.{answer}
use Rattle.script_answers.proofs.Passed.{collapse_passed, flip_passed, split_edge_passed, split_face_passed}
use Rattle.script_step.specs.Step.{effect, step}

module _ (t : Table) (Z : Shaped t) (W : WellFormed t) where
  pub effect_kept : (e : Edit) → answer t e ≡ 0 → Kept t (effect t e)
  unfolding answer effect
  effect_kept (Collapse c p) h =
      let k = collapse_passed t c.0 p h in
      collapse_kept t Z W c.0 k.lives k.inside k.wings k.safe p k.finite
  effect_kept (Flip c) h = let k = flip_passed t c.0 h in flip_kept t Z W c.0 k.lives k.inner k.wings
  effect_kept (SplitEdge c p) h =
      let k = split_edge_passed t c.0 p h in
      edge_kept t Z W (omega (arith, k.room.vertices)) p k.finite c.0 k.lives k.room.corners
  effect_kept (SplitFace f p) h =
      let k = split_face_passed t f.0 p h in
      face_kept t Z W (omega (arith, k.room.vertices)) p k.finite f.0 k.lives k.room.corners
  effect_kept Unknown h = absurd (omega (arith, h))

  -- nothing changed
  kept_same : Kept t t
  kept_same = record { shaped = Z; well_formed = W; euler = refl; corner_rooms = refl; vertex_rooms = refl }

  pub step_kept : (e : Edit) → Kept t (step t e)
  unfolding step
  step_kept e = go (ℕ_discrete (answer t e) 0)
    where
      go : Dec (answer t e ≡ 0) → Kept t (cond (eqb (answer t e) 0) (effect t e) t)
      go (yes h) = rw (eq-eqb _ _ h) (effect_kept e h)
      go (no h) = rw (ne_eqb _ _ h) kept_same
