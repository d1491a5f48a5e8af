-- A loop that runs a step over i, i + 1, .., and one that stops where the vertices don't fit. Assumes nothing.
use mathlib.Core.Path.{◌≡◌, refl, ap, sym, ◌∙◌, subst}
use mathlib.Core.List.{List}
use Prim.Native.Nat.{ℕ, zero, suc, ◌+◌, ◌-◌, ◌≤◌, ◌<◌}
use native.Mathlib.Omega.{arith}
use native.Mathlib.Numerals.{add-one}
use native.Mathlib.Nat.{sub-zero}
use Rattle.std.proofs.Common.{Ok}
use Rattle.table.specs.Table.{Table}
use Rattle.builder_build.specs.Build.{Shared}
use Rattle.builder_fans.specs.Chains.{shared_of, with_shared, Roomy, SameRooms, Ended, rings, vertex_of, spread_over, chain_of, chains_of}
use Rattle.builder_fans.proofs.Passes.{spread_over_zero, spread_over_suc, vertex_grows, same_rooms, rooms_on, framed}

module _ {A : Type 0} (step : ℕ → A → A) (run : ℕ → ℕ → A → A) (run-zero : (i : ℕ) (s : A) → run 0 i s ≡ s)
    (run-suc : (k i : ℕ) (s : A) → run (suc k) i s ≡ run k (suc i) (step i s)) (n : ℕ) where
  run_by : (k i : ℕ) (s : A) → 0 < k → run k i s ≡ run (k - 1) (i + 1) (step i s)
  run_by zero i s h = absurd (omega arith)
  run_by (suc k) i s h = let z : suc k - 1 ≡ k = omega arith in rw (z, add-one i) (run-suc k i s)

  pub run_next : (i : ℕ) (s : A) → i < n → run (n - i) i s ≡ run (n - (i + 1)) (i + 1) (step i s)
  run_next i s h = let z : n - (i + 1) ≡ (n - i) - 1 = omega arith in rw z (run_by (n - i) i s (omega arith))

  pub run_end : (i : ℕ) (s : A) → n ≤ i → run (n - i) i s ≡ s
  run_end i s h = let z : n - i ≡ 0 = omega arith in rw z (run-zero i s)

  pub run_start : (s : A) → run (n - 0) 0 s ≡ run n 0 s
  run_start s = rw sub-zero

-- the loop over the vertices of t₀, which stops where the new ones don't fit
spread_grows : (ring : ℕ → List ℕ) (link head : List ℕ) (n k v : ℕ) (s : Shared) → s.nv ≤ (spread_over ring link head n k v s).nv
spread_grows ring link head n zero v s = rw (spread_over_zero ring link head n v s) (omega arith)
spread_grows ring link head n (suc k) v s =
    rw (spread_over_suc ring link head n k v s)
    (omega (arith, vertex_grows ring link head n v s, spread_grows ring link head n k (suc v) (vertex_of ring link head n v s)))

module _ (room : ℕ) (t₀ : Table) where
  abbrev step : ℕ → Shared → Shared
  step = chain_of t₀

  abbrev run : ℕ → ℕ → Shared → Shared
  run = chains_of t₀

  abbrev first : (v : ℕ) (s : Shared) → run 0 v s ≡ s
  first = spread_over_zero (rings t₀) t₀.corner_mark t₀.vertex_mark t₀.corners

  abbrev more : (k v : ℕ) (s : Shared) → run (suc k) v s ≡ run k (suc v) (step v s)
  more = spread_over_suc (rings t₀) t₀.corner_mark t₀.vertex_mark t₀.corners

  pub record Running (whole : Shared) (i : ℕ) (t : Table) : Type 0 where
    pub rooms : SameRooms t₀ t
    pub frame : t ≡ with_shared t₀ (shared_of t)
    pub few : t.vertices ≤ room
    pub same : run (t₀.vertices - i) i (shared_of t) ≡ whole

  pub running_start : t₀.vertices ≤ room → Running (run t₀.vertices 0 (shared_of t₀)) 0 t₀
  running_start l = record { rooms = same_rooms t₀; frame = refl; few = l; same = run_start step run first more t₀.vertices (shared_of t₀) }

  module _ (whole : Shared) (i : ℕ) (t : Table) (R : Running whole i t) where
    pub running_end : t₀.vertices ≤ i → Ended room t₀ whole t (Ok (tt {0}))
    running_end h = by (sym (run_end step run first more t₀.vertices i (shared_of t) h) ∙ R.same)
      where
        by : shared_of t ≡ whole → Ended room t₀ whole t (Ok (tt {0}))
        by z = (R.frame ∙ ap (with_shared t₀) z, subst (λ (s : Shared). s.nv ≤ room) z R.few)

    pub running_roomy : Roomy room t₀ → Roomy room t
    running_roomy S = record { most = S.most; few = R.few }

    -- a step on t is one on t₀
    step_same : chain_of t i (shared_of t) ≡ step i (shared_of t)
    step_same = ap (λ (u : Table). chain_of u i (shared_of t)) R.frame

    module _ (h : i < t₀.vertices) where
      on : run (t₀.vertices - (i + 1)) (i + 1) (step i (shared_of t)) ≡ whole
      on = sym (run_next step run first more t₀.vertices i (shared_of t) h) ∙ R.same

      pub running_full : room < (chain_of t i (shared_of t)).nv → room < whole.nv
      running_full l =
          rw (← on)
          (omega (
            arith,
            subst (λ (s : Shared). room < s.nv) step_same l,
            spread_grows (rings t₀) t₀.corner_mark t₀.vertex_mark t₀.corners (t₀.vertices - (i + 1)) (i + 1) (step i (shared_of t)),
          ))

      pub running_on : (u : Table) → SameRooms t u
          → (u ≡ with_shared t (chain_of t i (shared_of t))) × ((chain_of t i (shared_of t)).nv ≤ room) → Running whole (i + 1) u
      running_on u S g =
          record {
            rooms = rooms_on t₀ t u R.rooms S;
            frame = framed t₀ t u _ R.frame g.0;
            few = omega (arith, ap (λ (w : Table). w.vertices) g.0, g.1);
            same = ap (run (t₀.vertices - (i + 1)) (i + 1)) (ap shared_of g.0 ∙ step_same) ∙ on;
          }
