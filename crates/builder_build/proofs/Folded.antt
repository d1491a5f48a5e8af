-- Every face of a build, and so all of them, leave a table that is ready. Assumes nothing.
use mathlib.Core.Path.{◌≡◌, refl}
use mathlib.Core.Logic.{◌≢◌, inl}
use mathlib.Core.Bool.{Bool, true, false, cond, ◌&&◌, ◌||◌}
use mathlib.Core.List.{List, [], ◌∷◌}
use Prim.Native.Nat.{ℕ, zero, suc, ◌+◌, ◌≤◌}
use native.Mathlib.Omega.{arith}
use borrow.Author.Tests.{eqb-true, eqb-false, ltb-true, ltb-false, not-false}
use lib.Dec.{eqb, ltb}
use lib.ListN.{get_or, replicate, length-replicate}
use Rattle.corner.specs.Corner.{absent}
use Rattle.table.specs.Table.{max_corners}
use Rattle.std.proofs.lemmas.Bool.{and_parts, or_parts}
use Rattle.builder_build.specs.Build.{SoFar, start, found, held, skip, grow, Course, refuse, go, known, repeated, taken, face, on_course, faces}
use Rattle.builder_build.specs.Ready.{Ready}
use Rattle.builder_build.proofs.Ready.{grow_ready, skip_ready}

-- what a step leaves is ready, and a refusal has a number that isn't 0
abbrev pub Leaves : (SoFar → Type 0) → Course → Type 0
Leaves P (refuse n) = n ≢ 0
Leaves P (go s) = P s

module _ (nv room vroom : ℕ) where
  abbrev pub Fine : Course → Type 0
  Fine = Leaves (Ready nv room vroom)

  pub face_ready : (s : SoFar) → Ready nv room vroom s → (a b c : ℕ) → Fine (face nv room s a b c)
  unfolding face
  face_ready s R a b c = by (known nv a b c) (repeated a b c) (taken s a b c) (ltb room (s.nc + 3)) refl refl refl refl
    where
      by : (k r t f : Bool) → known nv a b c ≡ k → repeated a b c ≡ r → taken s a b c ≡ t → ltb room (s.nc + 3) ≡ f
          → Fine (cond k (cond r (refuse 3) (cond t (go (skip s)) (cond f (refuse 6) (go (grow s a b c))))) (refuse 2))
      by false r t f p q w z = omega arith
      by true true t f p q w z = omega arith
      by true false true f p q w z = skip_ready nv room vroom s R
      by true false false true p q w z = omega arith
      by true false false false p q w z =
          let n1 = and_parts (ltb a nv) (ltb b nv && ltb c nv) p in
          let n2 = and_parts (ltb b nv) (ltb c nv) n1.1 in
          let r1 = or_parts (eqb a b) (eqb b c || eqb c a) q in
          let r2 = or_parts (eqb b c) (eqb c a) r1.1 in
          let t1 = or_parts (held s b c) (held s c a || held s a b) w in
          let t2 = or_parts (held s c a) (held s a b) t1.1 in
          grow_ready nv room vroom s R a b c
          (ltb-true a nv n1.0)
          (ltb-true b nv n2.0)
          (ltb-true c nv n2.1)
          (eqb-false a b r1.0)
          (eqb-false b c r2.0)
          (eqb-false c a r2.1)
          (eqb-true (found s b c) absent (not-false _ t1.0))
          (eqb-true (found s c a) absent (not-false _ t2.0))
          (eqb-true (found s a b) absent (not-false _ t2.1))
          (ltb-false room (s.nc + 3) z)

  pub faces_ready : (fs : List ℕ) (s : SoFar) → Ready nv room vroom s → Fine (faces nv room s fs)
  unfolding faces
  faces_ready [] s R = R
  faces_ready (a ∷ []) s R = R
  faces_ready (a ∷ b ∷ []) s R = R
  faces_ready (a ∷ b ∷ c ∷ fs) s R = by (λ u f. faces_ready fs u f) (face nv room s a b c) (face_ready s R a b c)
    where
      by : ((u : SoFar) → Ready nv room vroom u → Fine (faces nv room u fs)) → (t : Course) → Fine t → Fine (on_course t (λ u. faces nv room u fs))
      by more (refuse n) f = f
      by more (go u) f = more u f

pub get_d_replicate : (n i x : ℕ) → get_or (replicate n x) i x ≡ x
get_d_replicate zero i x = refl
get_d_replicate (suc n) zero x = refl
get_d_replicate (suc n) (suc i) x = get_d_replicate n i x

pub start_ready : (nv room vroom : ℕ) → nv ≤ vroom → room ≤ max_corners → Ready nv room vroom (start room vroom)
start_ready nv room vroom h m = record {
  cv_length = length-replicate {0} {A = ℕ} room 0;
  co_length = length-replicate {0} {A = ℕ} room absent;
  vc_length = length-replicate {0} {A = ℕ} vroom absent;
  vertices = h;
  most = m;
  fits = omega arith;
  paired = record {
    thirds = omega arith;
    small = omega arith;
    differ = λ c l. absurd (omega arith);
    mate = λ c l. absurd (omega arith);
    once = λ c d l. absurd (omega arith);
  };
  below = λ c l. absurd (omega arith);
  home = λ v. inl (get_d_replicate vroom v absent);
  has = λ c l. absurd (omega arith);
}
