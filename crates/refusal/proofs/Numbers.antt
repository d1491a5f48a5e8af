-- No refusal has the number 0, no two have one number, and what `?` hands on is the refusal that was met. Assumes nothing.
use Prim.Native.Nat.{ℕ}
use Rattle.std.specs.Prelude.{Result, Ok, Err, cond}
use Rattle.std.specs.Result.{IsErr, IsErrAnd}
use mathlib.Core.Path.{◌≡◌, refl, ap, sym, ◌∙◌}
use mathlib.Core.Bool.{false}
use lib.Dec.{eqb}
use Rattle.refusal.specs.declared.Refusal.{Refusal}
use Rattle.refusal.specs.declared.Refusal.TheVariants.{Parts, UnknownVertex, RepeatedVertex, NotFinite, NoVertexRoom, NoCornerRoom, NotWellFormed, Misfit}
use Rattle.refusal.specs.declared.Refusal.TheVariants.{NoTarget, Deleted, Border, SameVertex, Unsafe, UnknownKind, Tangled, ShortList}
use Rattle.refusal.specs.Refusal.{number_of, answer_of}

pub numbered : (e : Refusal) → eqb (number_of e) 0 ≡ false
numbered Parts = refl
numbered UnknownVertex = refl
numbered RepeatedVertex = refl
numbered NotFinite = refl
numbered NoVertexRoom = refl
numbered NoCornerRoom = refl
numbered NotWellFormed = refl
numbered Misfit = refl
numbered NoTarget = refl
numbered Deleted = refl
numbered Border = refl
numbered SameVertex = refl
numbered Unsafe = refl
numbered UnknownKind = refl
numbered Tangled = refl
numbered ShortList = refl

pub handed_on : {A : Type 0} (r : Result A Refusal) (e : Refusal) → IsErr r × IsErrAnd r (λ x. x ≡ e) → answer_of r ≡ number_of e
handed_on (Ok x) e h = absurd h.1
handed_on (Err x) e h = ap number_of h.1

-- the refusal of a number
refusal_at : ℕ → Refusal
refusal_at n = cond (eqb n 1) Parts (cond (eqb n 2) UnknownVertex (cond (eqb n 3) RepeatedVertex (cond (eqb n 4) NotFinite (cond (eqb n 5) NoVertexRoom (cond (eqb n 6) NoCornerRoom (cond (eqb n 7) NotWellFormed (cond (eqb n 8) Misfit (cond (eqb n 9) NoTarget (cond (eqb n 10) Deleted (cond (eqb n 11) Border (cond (eqb n 12) SameVertex (cond (eqb n 13) Unsafe (cond (eqb n 14) UnknownKind (cond (eqb n 15) Tangled ShortList))))))))))))))

back : (e : Refusal) → refusal_at (number_of e) ≡ e
unfolding refusal_at
back Parts = refl
back UnknownVertex = refl
back RepeatedVertex = refl
back NotFinite = refl
back NoVertexRoom = refl
back NoCornerRoom = refl
back NotWellFormed = refl
back Misfit = refl
back NoTarget = refl
back Deleted = refl
back Border = refl
back SameVertex = refl
back Unsafe = refl
back UnknownKind = refl
back Tangled = refl
back ShortList = refl

pub number_of_injective : (e f : Refusal) → number_of e ≡ number_of f → e ≡ f
number_of_injective e f h = sym (back e) ∙ ap refusal_at h ∙ back f
