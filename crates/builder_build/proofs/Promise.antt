-- The promise of the build: where it answers 0 the table is well-formed, R1 to R6. Assumes nothing.
use mathlib.Core.Path.{◌≡◌, refl}
use mathlib.Core.Bool.{Bool, true, false, cond, ◌&&◌}
use mathlib.Core.List.{List}
use Prim.Native.Nat.{ℕ, ◌*◌, ◌≤◌, ◌%◌, ◌/◌}
use native.Mathlib.Omega.{arith}
use borrow.Author.Tests.{ltb-false, eqb-true}
use lib.Dec.{eqb, ltb}
use lib.Ieee.{Float}
use lib.ListN.{length}
use Rattle.table.specs.Table.{Table, corner_room, vertex_room, shaped, Shaped, max_vertices}
use Rattle.std.proofs.lemmas.Bool.{and_parts}
use Rattle.table.proofs.Shape.{shaped_true}
use Rattle.builder_build.specs.Build.{Course, refuse, go, faces, refused_build, start, all_finite, done, spread, finish, build, Finished}
use Rattle.builder_build.proofs.Folded.{Fine, faces_ready, start_ready}
use Rattle.builder_build.proofs.Finished.{done_formed, done_shaped}

never : (n : ℕ) → (n ≡ 0 → ⊥) → (rc rv : ℕ) → Finished (refused_build rc rv n)
never n h rc rv e = absurd (h e)

finish_good : (rc rv nv : ℕ) (points : List Float) → all_finite points ≡ true → rv ≤ max_vertices → length points ≤ 3 * rv
    → (t : Course) → Fine nv rc rv t → Finished (finish rc rv nv points t)
unfolding finish
finish_good rc rv nv points F m l (refuse a) h = never a h rc rv
finish_good rc rv nv points F m l (go k) R = by (ltb rv (spread rv nv points k).nv) refl
  where
    by : (b : Bool) → ltb rv (spread rv nv points k).nv ≡ b
        → Finished (cond b (refused_build rc rv 5) (done rc rv k (spread rv nv points k)))
    by true e = never 5 (omega arith) rc rv
    by false e =
        let fits = ltb-false rv (spread rv nv points k).nv e in
        λ z. (done_shaped rc rv nv points k R F m l fits, done_formed rc rv nv points k R F m l fits)

module _ (t : Table) (points : List Float) (fs : List ℕ) where
  abbrev rc : ℕ
  rc = corner_room t

  abbrev rv : ℕ
  rv = vertex_room t

  abbrev nv : ℕ
  nv = length points / 3

  by : (a b c : Bool) → shaped t && eqb (length points % 3) 0 ≡ a → ltb rv nv ≡ b → all_finite points ≡ c
      → Finished
      (cond a (cond b (refused_build rc rv 5) (cond c (finish rc rv nv points (faces nv rc (start rc rv) fs)) (refused_build rc rv 4)))
      (record { answer = 1; skipped = 0; result = t }))
  by false b c p q r = λ e. absurd (omega arith)
  by true true c p q r = never 5 (omega arith) rc rv
  by true false false p q r = never 4 (omega arith) rc rv
  by true false true p q r =
      let z = and_parts (shaped t) (eqb (length points % 3) 0) p in
      let s : Shaped t = shaped_true t z.0 in
      let m : length points % 3 ≡ 0 = eqb-true _ _ z.1 in
      let f : nv ≤ rv = ltb-false rv nv q in
      finish_good rc rv nv points r s.vertex_most (omega arith) (faces nv rc (start rc rv) fs)
      (faces_ready nv rc rv fs (start rc rv) (start_ready nv rc rv f s.corner_most))

  -- on every input
  pub finished : Finished (build t points fs)
  unfolding build
  finished = by (shaped t && eqb (length points % 3) 0) (ltb rv nv) (all_finite points) refl refl refl
