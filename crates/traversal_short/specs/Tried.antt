-- What is left of a walk that is written on the way.
use Rattle.std.specs.Prelude.{ℕ, List, ◌≡◌, drop, Option, IfSome, IfNone}
use Rattle.traversal_visits.specs.declared.Corners.{Corners}
use Rattle.traversal_lists.specs.Outcome.{done_ring, walked_on}
use Rattle.traversal_lists.specs.declared.Kind.{Kind}

-- what is written on the way: nothing past the first 16 words, and all of a ring where it is known how many corners it has
pub record Short (kind : Kind) (on : Corners) (c : ℕ) (n : Option ℕ) (before after : List ℕ) : Type 0 where
  pub past : drop 16 after ≡ drop 16 before
  pub ring : IfSome n (λ n. done_ring n n after ≡ walked_on kind on c before)

-- the same once the first 16 words are put back where there is no such ring
pub record Tried (kind : Kind) (on : Corners) (c : ℕ) (n : Option ℕ) (before after : List ℕ) : Type 0 where
  pub none : IfNone n (after ≡ before)
  pub ring : IfSome n (λ n. done_ring n n after ≡ walked_on kind on c before)
