-- Six corners more: marks, and who is live. Assumes nothing.
use mathlib.Core.Path.{◌≡◌, refl, sym, ◌∙◌}
use mathlib.Core.Logic.{◌⊎◌, inl, inr}
use Prim.Native.Nat.{ℕ, ◌+◌, ◌≤◌, ◌<◌, ◌%◌}
use native.Mathlib.Omega.{arith}
use native.Mathlib.Decide.{dec_lt}
use lib.ListN.{length, get_or}
use Rattle.corner.specs.Corner.{next}
use Rattle.corner.proofs.Turns.{next_below, next_first, next_second, next_last}
use Rattle.fan.proofs.Redirect.{at, at_same, at_other, Seen}
use Rattle.table.specs.Slots.{mark_at}
use Rattle.table.specs.Table.{Table, Live}
use Rattle.table.specs.Rules.{WellFormed}
use Rattle.edit_keeps.proofs.SplitInner.{in_six}
use Rattle.edit_keeps.proofs.Writes.{push6, push6_seen, push6_old, marks_grown}

abbrev pub Live6 : Table → ℕ → Type 0
Live6 t d = (d < t.corners + 6) × (get_or (push6 t.corner_mark t.corners 0 0 0 0 0 0) d 1 ≡ 0)

module _ (t : Table) (W : WellFormed t) (room : t.corners + 6 ≤ length t.corner_mark) where
  n : ℕ
  n = t.corners

  M : ℕ → ℕ
  M = at (t.corners + 5) 0 (at (t.corners + 4) 0 (at (t.corners + 3) 0 (at (t.corners + 2) 0 (at (t.corners + 1) 0 (at t.corners 0 (λ d. mark_at t.corner_mark d))))))

  seen : (d : ℕ) → d < t.corners + 6 → get_or (push6 t.corner_mark t.corners 0 0 0 0 0 0) d 1 ≡ M d
  unfolding M
  seen d h =
      let s : Seen t.corner_mark (λ d. mark_at t.corner_mark d) 1 d = record { inside = omega arith; value = refl } in
      (push6_seen t.corners 0 0 0 0 0 0 s).value

  M_old : (d : ℕ) → d < t.corners → M d ≡ mark_at t.corner_mark d
  unfolding M
  M_old d h = push6_old t.corners 0 0 0 0 0 0 _ d h

  pub grow : (d : ℕ) → Live t d → Live6 t d
  grow d h = (omega arith, seen d (omega arith) ∙ M_old d h.0 ∙ h.1)

  pub fresh : (d : ℕ) → t.corners ≤ d → d ≤ t.corners + 5 → Live6 t d
  unfolding M
  fresh d a b = (
    omega arith,
    seen d (omega arith) ∙ in_six (λ d. M d ≡ 0) t.corners (t.corners + 1) (t.corners + 2) (t.corners + 3) (t.corners + 4) (t.corners + 5) refl refl refl refl refl
        (at_other _ _ _ _ (omega arith) ∙ at_other _ _ _ _ (omega arith) ∙ at_other _ _ _ _ (omega arith) ∙ at_other _ _ _ _ (omega arith) ∙ at_other _ _ _ _ (omega arith) ∙ at_same _ _ _)
        (at_other _ _ _ _ (omega arith) ∙ at_other _ _ _ _ (omega arith) ∙ at_other _ _ _ _ (omega arith) ∙ at_other _ _ _ _ (omega arith) ∙ at_same _ _ _)
        (at_other _ _ _ _ (omega arith) ∙ at_other _ _ _ _ (omega arith) ∙ at_other _ _ _ _ (omega arith) ∙ at_same _ _ _)
        (at_other _ _ _ _ (omega arith) ∙ at_other _ _ _ _ (omega arith) ∙ at_same _ _ _) (at_other _ _ _ _ (omega arith) ∙ at_same _ _ _) (at_same _ _ _) d a b,
  )

  pub shrink : (d : ℕ) → Live6 t d → Live t d ⊎ ((t.corners ≤ d) × (d ≤ t.corners + 5))
  shrink d h = go (dec_lt d t.corners)
    where
      go : Dec (d < t.corners) → Live t d ⊎ ((t.corners ≤ d) × (d ≤ t.corners + 5))
      go (yes l) = inl (l, sym (M_old d l) ∙ sym (seen d h.0) ∙ h.1)
      go (no l) = inr (omega arith, omega (arith, h.0))

  pub next6 : next t.corners ≡ t.corners + 1
  next6 = next_first t.corners W.thirds

  pub next7 : next (t.corners + 1) ≡ t.corners + 2
  next7 = let z : t.corners % 3 ≡ 0 = W.thirds in omega (arith, next_second (t.corners + 1) (omega arith))

  pub next8 : next (t.corners + 2) ≡ t.corners
  next8 = let z : t.corners % 3 ≡ 0 = W.thirds in omega (arith, next_last (t.corners + 2) (omega arith))

  pub next9 : next (t.corners + 3) ≡ t.corners + 4
  next9 = let z : t.corners % 3 ≡ 0 = W.thirds in omega (arith, next_first (t.corners + 3) (omega arith))

  pub next10 : next (t.corners + 4) ≡ t.corners + 5
  next10 = let z : t.corners % 3 ≡ 0 = W.thirds in omega (arith, next_second (t.corners + 4) (omega arith))

  pub next11 : next (t.corners + 5) ≡ t.corners + 3
  next11 = let z : t.corners % 3 ≡ 0 = W.thirds in omega (arith, next_last (t.corners + 5) (omega arith))

  pub face_marks_lem : (c : ℕ) → c < t.corners + 6 → get_or (push6 t.corner_mark t.corners 0 0 0 0 0 0) (next c) 1 ≡ get_or (push6 t.corner_mark t.corners 0 0 0 0 0 0) c 1
  face_marks_lem c h = go (dec_lt c t.corners)
    where
      go : Dec (c < t.corners) → get_or (push6 t.corner_mark t.corners 0 0 0 0 0 0) (next c) 1 ≡ get_or (push6 t.corner_mark t.corners 0 0 0 0 0 0) c 1
      go (yes l) =
          let k : next c < t.corners = next_below c t.corners W.thirds l in
          seen (next c) (omega arith) ∙ M_old (next c) k ∙ W.face_marks c l ∙ sym (M_old c l) ∙ sym (seen c (omega arith))
      go (no l) =
          let m : t.corners % 3 ≡ 0 = W.thirds in
          let a : next c < t.corners + 6 = next_below c (t.corners + 6) (omega arith) h in
          let b : t.corners ≤ next c = in_six (λ d. t.corners ≤ next d) t.corners (t.corners + 1) (t.corners + 2) (t.corners + 3) (t.corners + 4) (t.corners + 5) refl refl refl refl refl
          (omega (arith, next6)) (omega (arith, next7)) (omega (arith, next8)) (omega (arith, next9)) (omega (arith, next10)) (omega (arith, next11)) c (omega arith) (omega arith) in
          (fresh (next c) b (omega arith)).1 ∙ sym (fresh c (omega arith) (omega arith)).1

  pub corner_marks_lem : (c : ℕ) → c < t.corners + 6 → mark_at (push6 t.corner_mark t.corners 0 0 0 0 0 0) c ≤ 1
  corner_marks_lem =
      marks_grown t.corner_mark (push6 t.corner_mark t.corners 0 0 0 0 0 0) t.corners (t.corners + 6) W.corner_marks
      (λ i h. seen i (omega arith) ∙ M_old i h) (λ i a b. (fresh i a (omega arith)).1)
