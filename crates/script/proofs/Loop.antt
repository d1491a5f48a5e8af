-- The loop over the commands: what is left of the script takes the table as it is now to where the whole script takes the first one.
-- Assumes nothing.
use Prim.Native.Nat.{ℕ, suc, ◌+◌, ◌-◌, ◌≤◌, ◌<◌}
use mathlib.Core.Path.{◌≡◌, refl, sym, ap, subst, ◌∙◌}
use mathlib.Core.List.{List}
use native.Mathlib.Omega.{arith}
use lib.ListN.{length, set, length-set}
use Rattle.table.specs.Table.{Table}
use Rattle.edit_keeps.specs.Keeps.{Kept}
use Rattle.script_command.specs.declared.Edit.{Edit}
use Rattle.script_command.specs.Decode.{command_at}
use Rattle.script_step.proofs.Kept.{step_kept}
use Rattle.table.specs.Rules.{Good}
use Rattle.script_step.specs.Stepped.{Stepped}
use Rattle.script.specs.Commands.{commands, Completed}

pub kept_trans : {t u v : Table} → Kept t u → Kept u v → Kept t v
kept_trans a b =
    record {
      shaped = b.shaped;
      well_formed = b.well_formed;
      euler = omega (arith, a.euler, b.euler);
      corner_rooms = b.corner_rooms ∙ a.corner_rooms;
      vertex_rooms = b.vertex_rooms ∙ a.vertex_rooms;
    }

pub kept_same : (t : Table) → Good t → Kept t t
kept_same t G = record { shaped = G.shaped; well_formed = G.well_formed; euler = refl; corner_rooms = refl; vertex_rooms = refl }

pub kept_good : {t u : Table} → Kept t u → Good u
kept_good k = record { shaped = k.shaped; well_formed = k.well_formed }

-- i of n commands are done
pub record Running (s : List ℕ) (n i : ℕ) (answers₀ answers : List ℕ) (t₀ t : Table) : Type 0 where
  pub low : i ≤ n
  pub words : length answers ≡ length answers₀
  pub outcome : commands s (n - i) i answers t ≡ commands s n 0 answers₀ t₀
  pub kept : Kept t₀ t

module _ (s : List ℕ) (n : ℕ) (answers₀ : List ℕ) (t₀ : Table) (G : Good t₀) where
  pub running_start : Running s n 0 answers₀ answers₀ t₀ t₀
  running_start =
      let z : n - 0 ≡ n = omega arith in
      record {
        low = omega arith;
        words = refl;
        outcome = ap (λ (m : ℕ). commands s m 0 answers₀ t₀) z;
        kept = kept_same t₀ G;
      }

  -- one command more
  turned : (m i : ℕ) (answers answers' : List ℕ) (t u : Table) (e : Edit) (a : ℕ) → e ≡ command_at s i → Stepped t e a u → answers' ≡ set answers i a
      → commands s (suc m) i answers t ≡ commands s m (i + 1) answers' u
  unfolding commands
  turned m i answers answers' t u e a q d w = rw (← q, ← d.answered, ← d.table, ← w)

  pub running_more : (i : ℕ) (answers answers' : List ℕ) (t u : Table) (e : Edit) (a : ℕ) → Running s n i answers₀ answers t₀ t → i < n → e ≡ command_at s i
      → Stepped t e a u → answers' ≡ set answers i a → Running s n (i + 1) answers₀ answers' t₀ u
  running_more i answers answers' t u e a r l q d w =
      let z : n - i ≡ suc (n - (i + 1)) = omega arith in
      let k : Kept t u = subst (λ (x : Table). Kept t x) (sym d.table) (step_kept t r.kept.shaped r.kept.well_formed e) in
      let g : Kept t₀ u = kept_trans r.kept k in
      record {
        low = omega arith;
        words = ap length w ∙ length-set answers i a ∙ r.words;
        outcome = sym (ap (λ (m : ℕ). commands s m i answers t) z ∙ turned (n - (i + 1)) i answers answers' t u e a q d w) ∙ r.outcome;
        kept = g;
      }

  pub running_end : (i : ℕ) (answers : List ℕ) (t : Table) → Running s n i answers₀ answers t₀ t → n ≤ i → Completed s n answers₀ answers t₀ t
  unfolding commands
  running_end i answers t r h =
      let z : n - i ≡ 0 = omega (arith, r.low) in
      record { outcome = sym (ap (λ (m : ℕ). commands s m i answers t) z) ∙ r.outcome; kept = r.kept }
