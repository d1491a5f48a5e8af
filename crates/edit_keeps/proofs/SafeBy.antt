-- The refusals of a collapse, passed, are what its proof needs. Assumes nothing.
use Prim.Native.Nat.{ℕ, ◌/◌}
use mathlib.Core.Path.{◌≡◌, sym, ap, ◌∙◌}
use mathlib.Core.Logic.{◌≢◌, ◌⊎◌, inl, inr}
use mathlib.Core.Bool.{false}
use Rattle.corner.specs.Corner.{absent, next, previous}
use Rattle.corner.proofs.Turns.{next_next, previous_next, next_face, InFace, itself, after, before, in_face}
use Rattle.table.specs.Table.{Table, vertex, opposite, Live, Shaped}
use Rattle.table.specs.Rules.{WellFormed}
use Rattle.fan.proofs.Fan.{Linked}
use Rattle.fan.proofs.Tables.{table_linked}
use Rattle.edge_collapse.specs.EdgeCollapse.{affects_boundary, unsafe}
use Rattle.edge_collapse.specs.Paper.{ThirdFace}
use Rattle.edge_collapse.proofs.Paper.{unaffected, inner, safe}
use Rattle.edit_keeps.proofs.Site.{Six, is1, is2, is0, is4, is5, is3}
use Rattle.edit_keeps.proofs.CollapseTable.{Safe}

module _ (t : Table) (Z : Shaped t) (W : WellFormed t) (c : ℕ) (l : Live t c) (e : affects_boundary t c ≡ false) (s : unsafe t c ≡ false)
    (wings : vertex t c ≢ vertex t (opposite t c)) where
  abbrev c4 : ℕ
  c4 = opposite t c

  abbrev S : ℕ → Type 0
  S d = Six c (next c) (next (next c)) c4 (next c4) (next (next c4)) d

  L : Linked (Live t) (opposite t) (vertex t)
  L = table_linked t Z W

  there : opposite t c ≢ absent
  there = inner t Z W c l e

  rings : (d : ℕ) → Live t d → (vertex t d ≡ vertex t (next c)) ⊎ (vertex t d ≡ vertex t (next (next c))) → (opposite t (next d) ≢ absent) × (opposite t (previous d) ≢ absent)
  rings d h (inl k) = (
    λ z. (unaffected t Z W c l e).0 (record { at = d; lives = h; of = k; lacks = inl z }),
    λ z. (unaffected t Z W c l e).0 (record { at = d; lives = h; of = k; lacks = inr z }),
  )
  rings d h (inr k) =
      let k' : vertex t d ≡ vertex t (previous c) = k ∙ ap (vertex t) (next_next c) in (
        λ z. (unaffected t Z W c l e).1 (record { at = d; lives = h; of = k'; lacks = inl z }),
        λ z. (unaffected t Z W c l e).1 (record { at = d; lives = h; of = k'; lacks = inr z }),
      )

  -- a corner in neither of the edge's two faces
  off : (d : ℕ) → ¬ S d → d / 3 ≢ c / 3
  off d n z = go (in_face c d z)
    where
      go : InFace c d → ⊥
      go (itself q) = n (is1 q)
      go (after q) = n (is2 q)
      go (before q) = n (is0 (q ∙ sym (next_next c)))

  off' : (d : ℕ) → ¬ S d → d / 3 ≢ c4 / 3
  off' d n z = go (in_face c4 d z)
    where
      go : InFace c4 d → ⊥
      go (itself q) = n (is4 q)
      go (after q) = n (is5 q)
      go (before q) = n (is3 (q ∙ sym (next_next c4)))

  no_third : ThirdFace (Live t) (opposite t) (vertex t) c → ⊥
  no_third = (safe t Z W c l e s).0

  third : (d : ℕ) → Live t d → ¬ S d → vertex t d ≡ vertex t (next c) → vertex t (next d) ≢ vertex t (next (next c))
  third d h n k z =
      no_third (record { at = d; lives = h; kept = k; lost = inl (z ∙ ap (vertex t) (next_next c)); other = off d n; other' = off' d n })

  third' : (d : ℕ) → Live t d → ¬ S d → vertex t d ≡ vertex t (next (next c)) → vertex t (next d) ≢ vertex t (next c)
  third' d h n k z =
      no_third (record {
        at = next d;
        lives = L.face d h;
        kept = z;
        lost = inr (ap (vertex t) (previous_next d) ∙ k ∙ ap (vertex t) (next_next c));
        other = λ q. off d n (sym (next_face d) ∙ q);
        other' = λ q. off' d n (sym (next_face d) ∙ q);
      })

  pub safe_by : Safe t c
  safe_by = record { alive = l; here = there; rings = rings; wings = wings; third = third; third' = third' }
