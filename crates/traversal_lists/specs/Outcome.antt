-- What a ring call leaves of its walk. Document 01, "Ring lists and the walker".
use Rattle.std.specs.Prelude.{ℕ, ◌+◌, List, ◌++◌, cond, length, drop, leb, Result, Ok, Err}
use Rattle.refusal.specs.Refusal.{number_of}
use Rattle.refusal.specs.declared.Refusal.{Refusal}
use Rattle.traversal_visits.specs.Walk.{Walk, tangled, closed, open', visits, walk}
use Rattle.traversal_visits.specs.declared.Corners.{Corners}
use Rattle.traversal_visits.specs.declared.Counted.{Counted}
use Rattle.traversal_visits.specs.declared.Counted.TheVariants.{Tangled, Closed, Open}
use Rattle.traversal_lists.specs.Lists.{twice, entries}
use Rattle.traversal_lists.specs.declared.Kind.{Kind}
use Rattle.traversal_lists.specs.declared.Ring.{Ring}

-- the answer, the two counts and the lent list
pub record RingOutcome : Type 0 where
  pub answer : ℕ
  pub visited : ℕ
  pub written : ℕ
  pub list : List ℕ

abbrev pub done_ring : (visited written : ℕ) → List ℕ → RingOutcome
done_ring n m list = record { answer = 0; visited = n; written = m; list = list }

-- "refused: 0 and 0"
abbrev pub refused_ring : ℕ → List ℕ → RingOutcome
refused_ring a list = record { answer = a; visited = 0; written = 0; list = list }

abbrev pub outcome : Result Ring Refusal → List ℕ → RingOutcome
outcome (Ok r) list = done_ring r.visited r.written list
outcome (Err e) list = refused_ring (number_of e) list

-- "List entries after those stay." 16: "list room too small"
abbrev pub listed : ℕ → List ℕ → List ℕ → RingOutcome
listed n es list =
    cond (leb (length es) (length list))
    (done_ring n (length es) (es ++ drop (length es) list))
    (refused_ring 16 list)

abbrev pub walked : Kind → List ℕ → Walk → List ℕ → RingOutcome
walked kind cv tangled list = refused_ring 15 list
walked kind cv (closed c l) list = listed (length (visits (closed c l))) (entries kind cv (closed c l)) list
walked kind cv (open' c l r) list = listed (length (visits (open' c l r))) (entries kind cv (open' c l r)) list

-- what the walk from c leaves
abbrev pub walked_on : Kind → Corners → ℕ → List ℕ → RingOutcome
walked_on kind on c list = walked kind on.cv.now (walk on.co.now on.cm.now on.used c) list

-- how many words of a list a walk takes, by its counts: one for each visit and, on a border, one more where the first corner has two. A
-- tangled walk takes one at least
abbrev pub needed : Kind → Counted → ℕ
needed kind Tangled = 1
needed kind (Closed l) = l + 1
needed kind (Open l r) = l + 1 + r + cond (twice kind) 1 0

-- the answer where the list has fewer: "15, 16"
abbrev pub too_short : Counted → ℕ
too_short Tangled = 15
too_short (Closed l) = 16
too_short (Open l r) = 16
