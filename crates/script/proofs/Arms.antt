-- The arms of a run. Assumes nothing.
use Prim.Native.Nat.{ℕ, ◌/◌}
use mathlib.Core.Path.{◌≡◌, sym, ap, ◌∙◌}
use mathlib.Core.Bool.{Bool, true, false}
use mathlib.Core.List.{List}
use native.Mathlib.Omega.{arith}
use borrow.Author.Tests.{ne_eqb}
use lib.ListN.{length}
use Rattle.std.specs.Prelude.{Result, Ok, Err}
use Rattle.std.specs.Result.{IsErr, IsErrAnd}
use Rattle.table.specs.Table.{Table as MeshTable, shaped}
use Rattle.table.specs.Rules.{Good}
use Rattle.checker.specs.Verdict.{Verdict}
use Rattle.checker.specs.Order.{verdict_of, passed}
use Rattle.checker.specs.Told.{told}
use Rattle.checker.specs.declared.Fault.{Fault}
use Rattle.checker.specs.declared.Fault.TheVariants.{Parts, Broken}
use Rattle.checker.proofs.Judge.{verdict_sound}
use Rattle.script_command.specs.Checks.{fits}
use Rattle.script.specs.declared.Unrun.{Unrun}
use Rattle.script.specs.declared.Unrun.TheVariants.{Table}
use Rattle.script.specs.Commands.{Completed}
use Rattle.script.specs.Run.{run, RunOutcome}
use Rattle.script.specs.Told.{answer_told, rule_told, slot_told}

no_one : (a : ℕ) {A : Type 0} → a ≡ 0 → (a ≡ 0 → ⊥) → A
no_one a e n = absurd (n e)

abbrev err : Unrun → Result Unit Unrun
err y = Err y

-- what `?` hands on is the fault that was met
handed_on : (r : Result Unit Unrun) (e : Fault) → IsErr r × IsErrAnd r (λ x. x ≡ Table e) → r ≡ Err (Table e)
handed_on (Ok x) e h = absurd h.1
handed_on (Err x) e h = ap (λ (y : Unrun). err y) h.1

pub good : (t : MeshTable) → passed ≡ verdict_of t → Good t
good t found =
    let p = verdict_sound t (ap (λ (x : Verdict). x.answer) (sym found)) in
    record { shaped = p.0; well_formed = p.1 }

-- u is the table, seen
module _ (s answers : List ℕ) (t u : MeshTable) (same : u ≡ t) (b : Bool) (test : b ≡ shaped u) where
  is : b ≡ shaped t
  is = test ∙ ap (λ (x : MeshTable). shaped x) same

  pub run_1 : b ≡ false → RunOutcome s answers t 1 0 0 answers t
  unfolding run
  run_1 h = record { settled = rw (← is, h); kept = λ z. no_one 1 z (λ q. omega (arith, q)) }

  module _ (on : b ≡ true) (f : Bool) (fit : f ≡ fits (length s) (length answers)) where
    pub run_8 : f ≡ false → RunOutcome s answers t 8 0 0 answers t
    unfolding run
    run_8 h = record { settled = rw (← is, on, ← fit, h); kept = λ z. no_one 8 z (λ q. omega (arith, q)) }

    module _ (ok : f ≡ true) where
      faulty : (v : Verdict) → v ≡ verdict_of t → (v.answer ≡ 0 → ⊥) → RunOutcome s answers t v.answer v.rule v.slot answers t
      unfolding run
      faulty v found h = record { settled = rw (← is, on, ← fit, ok, ← found, ne_eqb _ _ h); kept = λ z. no_one v.answer z h }

      pub run_7 : (r : Result Unit Unrun) (e : Fault) → IsErr r × IsErrAnd r (λ x. x ≡ Table e) → told (Err e) ≡ verdict_of t
          → RunOutcome s answers t (answer_told r) (rule_told r) (slot_told r) answers t
      run_7 r e h found = rw (handed_on r e h) (by e found)
        where
          by : (e : Fault) → told (Err e) ≡ verdict_of t
              → RunOutcome s answers t (answer_told (Err (Table e))) (rule_told (Err (Table e))) (slot_told (Err (Table e))) answers t
          by Parts found = faulty (told (Err Parts)) found (λ z. omega (arith, z))
          by (Broken rule slot) found = faulty (told (Err (Broken rule slot))) found (λ z. omega (arith, z))

      pub run_0 : passed ≡ verdict_of t → (answers' : List ℕ) (w : MeshTable) → Completed s (length s / 5) answers answers' t w
          → RunOutcome s answers t 0 0 0 answers' w
      unfolding run
      run_0 found answers' w k = record { settled = rw (← is, on, ← fit, ok, ← found, k.outcome); kept = λ z. k.kept }
