-- The numbers that calls answer by: 0 for what is done, else the number of what stands in its way.
use Rattle.std.specs.Prelude.{ℕ, ◌<◌, ◌≡◌, Result, Ok, Err, MatchResult}
use Rattle.refusal.specs.declared.NoRefusal.{NoRefusal}
use Rattle.refusal.specs.declared.Refusal.{Refusal}
use Rattle.refusal.specs.declared.Refusal.TheVariants.{Parts, UnknownVertex, RepeatedVertex, NotFinite, NoVertexRoom, NoCornerRoom, NotWellFormed, Misfit}
use Rattle.refusal.specs.declared.Refusal.TheVariants.{NoTarget, Deleted, Border, SameVertex, Unsafe, UnknownKind, Tangled, ShortList}

abbrev pub number_of : Refusal → ℕ
number_of Parts = 1
number_of UnknownVertex = 2
number_of RepeatedVertex = 3
number_of NotFinite = 4
number_of NoVertexRoom = 5
number_of NoCornerRoom = 6
number_of NotWellFormed = 7
number_of Misfit = 8
number_of NoTarget = 9
number_of Deleted = 10
number_of Border = 11
number_of SameVertex = 12
number_of Unsafe = 13
number_of UnknownKind = 14
number_of Tangled = 15
number_of ShortList = 16

abbrev pub answer_of : {A : Type 0} → Result A Refusal → ℕ
answer_of (Ok _) = 0
answer_of (Err e) = number_of e

-- the refusal of that number, or an error with a number that is no refusal's
abbrev pub Decodes : ℕ → Result Refusal NoRefusal → Type 0
Decodes n r = MatchResult r (λ e. number_of e ≡ n) (λ x. (x.0 ≡ n) × (0 < n → 16 < n))
