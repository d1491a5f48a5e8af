-- The ring of a corner by its opposites alone: what the build and the edits renumber, on tables whose marks need no look. It is the loop
-- of the Rust's `corners_around_vertex`: swings left and, if a border was met, swings right.
use Rattle.std.specs.Prelude.{ℕ, zero, suc, Bool, true, false, cond, List, [], ◌∷◌, ◌++◌, ◌≡◌, eqb}
use Rattle.corner.specs.Corner.{absent, turn}
use Rattle.table.specs.Slots.{opposite_at, relabel}

-- one side of the walk: the corners after the first, and whether it ended at a border
pub record Sweep : Type 0 where
  pub visits : List ℕ
  pub border : Bool

abbrev pub stop : Bool → Sweep
stop b = record { visits = []; border = b }

abbrev pub more : ℕ → Sweep → Sweep
more d s = record { visits = d ∷ s.visits; border = s.border }

-- the rest of a walk from c that began at c₀, with so many visits left
unfoldable pub sweep : Bool → List ℕ → ℕ → ℕ → ℕ → Sweep
sweep left co c₀ zero c = stop false
sweep left co c₀ (suc n) c =
    let o = opposite_at co (turn left c) in
    let d = turn left o in
    let rest = sweep left co c₀ n d in
    cond (eqb o absent) (stop true) (cond (eqb d c₀) (stop false) (more d rest))

-- the corner, those to its left and, if a border was met, those to its right. n corners are used
unfoldable pub ring : List ℕ → ℕ → ℕ → List ℕ
ring co n c =
    let l = sweep true co c n c in
    let r = sweep false co c n c in
    cond l.border ((c ∷ l.visits) ++ r.visits) (c ∷ l.visits)

-- what a loop leaves that stores v at the corners of one side, and what it answers
pub record Labelled (s : Sweep) (v : ℕ) (l l' : List ℕ) (b : Bool) : Type 0 where
  pub list : l' ≡ relabel s.visits v l
  pub border : b ≡ s.border
