-- What is promised of a script on a well-formed table, over the definitions of the commands. The theorems are in
-- proofs/Promises.antt, proofs/Words.antt and proofs/Inside.antt.
use Rattle.std.specs.Prelude.{ℕ, ◌≤◌, ◌<◌, ◌≡◌, false, ◌≢◌, Float, length, get_or}
use mathlib.Core.List.{List, Memᴰ}
use Rattle.corner.specs.Corner.{absent, next, previous, first_corner}
use Rattle.corner.specs.declared.Corner.{Corner}
use Rattle.corner.specs.declared.Face.{Face}
use Rattle.vertex.specs.declared.Point.{Point}
use Rattle.table.specs.Table.{Table, Shaped, vertex, opposite, corner, Live}
use Rattle.table.specs.Rules.{WellFormed}
use Rattle.ring.specs.Ring.{ring}
use Rattle.traversal_lists.specs.declared.Kind.{Kind}
use Rattle.traversal_lists.specs.declared.Kind.TheVariants.{Vertices}
use Rattle.traversal_visits.specs.Walk.{tangled, walk, visits}
use Rattle.traversal_lists.specs.Lists.{entries}
use Rattle.traversal.specs.Ring.{ring_of}
use Rattle.builder_build.specs.Build.{build}
use Rattle.edge_collapse.specs.EdgeCollapse.{meets_border, neighbours}
use Rattle.edit_plans.specs.declared.Around.{Around}
use Rattle.edit_plans.specs.declared.Triangle.{Triangle}
use Rattle.edit_plans.specs.Plans.{around, triangle}
use Rattle.edit_keeps.specs.Keeps.{Kept, AroundUsed, TriangleUsed}
use Rattle.script_command.specs.declared.Edit.{Edit}
use Rattle.script_command.specs.declared.Edit.TheVariants.{Collapse, Flip, SplitEdge, SplitFace}
use Rattle.script_command.specs.Decode.{command_at}
use Rattle.script_answers.specs.Answers.{answer}
use Rattle.script_answers.specs.Passed.{EndFits}
use Rattle.script_step.specs.Step.{step}
use Rattle.script_step.specs.Stepped.{Stepped}
use Rattle.script.specs.Commands.{commands}
use Rattle.script.specs.Run.{run, RunOutcome}

-- Demand 3, after every command: whatever the script and the answer words, after the first k commands the table is well-formed, V−E+F is what
-- it was, and the lent parts have their lengths
abbrev pub AfterEvery : Type 0
AfterEvery = (t : Table) → Shaped t → WellFormed t → (s answers : List ℕ) (k : ℕ) → Kept t (commands s k 0 answers t).table

-- ... and so from a table that a build made: a build that answers 0 and any script after it
abbrev pub AfterBuild : Type 0
AfterBuild = (t : Table) (points : List Float) (faces : List ℕ) → (build t points faces).answer ≡ 0 → (s answers : List ℕ) (k : ℕ)
    → Kept (build t points faces).result (commands s k 0 answers (build t points faces).result).table

-- A refused command, one that does not answer 0, leaves every slot and both counts as they were, on any table
abbrev pub Refused : Type 0
Refused = (t : Table) (e : Edit) → answer t e ≢ 0 → step t e ≡ t

-- two outcomes of a run, what they answer and leave, are one
pub record OneOutcome (a r p : ℕ) (l : List ℕ) (t : Table) (b q k : ℕ) (m : List ℕ) (u : Table) : Type 0 where
  pub answer : a ≡ b
  pub rule : r ≡ q
  pub slot : p ≡ k
  pub answers : l ≡ m
  pub table : t ≡ u

-- "any two outcomes allowed by it are equal": by the contract of a run, on any table, script and answer words
abbrev pub Settled : Type 0
Settled = (s answers : List ℕ) (t : Table) (a r slot : ℕ) (answers' : List ℕ) (u : Table) (b q place : ℕ) (others : List ℕ) (v : Table)
    → RunOutcome s answers t a r slot answers' u → RunOutcome s answers t b q place others v → OneOutcome a r slot answers' u b q place others v

-- the same of one command
abbrev pub StepSettled : Type 0
StepSettled = (t : Table) (e : Edit) (a b : ℕ) (u v : Table) → Stepped t e a u → Stepped t e b v → (a ≡ b) × (u ≡ v)

-- "demand 2 applied to each command from the table before it": answer word i of n commands is the answer that command i gets from the table
-- that the first i commands leave
abbrev pub EachWord : Type 0
EachWord = (t : Table) (s answers : List ℕ) (n i : ℕ) → i < n → i < length answers
    → get_or (commands s n 0 answers t).answers i 0 ≡ answer (commands s i 0 answers t).table (command_at s i)

-- "Unused answer words keep their contents."
abbrev pub OtherWords : Type 0
OtherWords = (t : Table) (s answers : List ℕ) (n i : ℕ) → n ≤ i → get_or (commands s n 0 answers t).answers i 0 ≡ get_or answers i 0

-- no command answers 15, "tangled walk", nor any number after 14
abbrev pub AtMost14 : Type 0
AtMost14 = (t : Table) (e : Edit) → answer t e ≤ 14

-- ---- no walk inside a run is tangled, no index inside a run is out of range

-- No walk is tangled: no ring list of the table answers 15, and from a live corner the walk never tangles. The commands walk by opposites
-- alone, and that ring is what the walk visits; without a border the neighbours that a collapse is tested by are the list of
-- `ring_vertices`. They begin at a live corner, also one that is refused: at a corner of the target's face, or at the corner of such a
-- corner's vertex.
pub record Untangled (t : Table) : Type 0 where
  pub lists : (kind : Kind) (v : ℕ) (list : List ℕ) → (ring_of kind v t list).answer ≢ 15
  pub starts : (c : ℕ) → Live t c → Live t (next c) × Live t (corner t (vertex t c))
  pub walks : (c : ℕ) → Live t c → walk t.corner_opposite t.corner_mark t.corners c ≢ tangled
  pub neighbours : (c : ℕ) → Live t c → meets_border t.corner_opposite t.corners c ≡ false
      → neighbours t.corner_vertex t.corner_opposite t.corners c
      ≡ entries Vertices t.corner_vertex (walk t.corner_opposite t.corner_mark t.corners c)
  pub rings : (c : ℕ) → Live t c → ring t.corner_opposite t.corners c ≡ visits (walk t.corner_opposite t.corner_mark t.corners c)

-- what an edit reads of the two faces at an edge, or of one face, before it writes
abbrev pub at_edge : Table → ℕ → Around
at_edge t c = around t.corner_vertex t.corner_opposite c

abbrev pub of_face : Table → ℕ → Triangle
of_face t c = triangle t.corner_vertex t.corner_opposite c

-- a ring that a command walks begins at a live corner, and all its corners are used
pub record RingUsed (t : Table) (c : ℕ) : Type 0 where
  pub begins : Live t c
  pub visits : (d : ℕ) → Memᴰ d (ring t.corner_opposite t.corners c) → d < t.corners

-- No index of a command is out of range: the slots that it reads and writes are used, or are those on the end. A collapse walks the rings of
-- the kept vertex (v2) and the deleted one (v0), an edge split that of the moved vertex (at c2).
pub data InRange (t : Table) : Edit → Type 0 where
  collapse : {c : Corner} {p : Point} → AroundUsed t (at_edge t c.0) → RingUsed t (corner t (at_edge t c.0).v2.0)
      → RingUsed t (corner t (at_edge t c.0).v0.0) → InRange t (Collapse c p)
  flip : {c : Corner} → AroundUsed t (at_edge t c.0) → InRange t (Flip c)
  split_border : {c : Corner} {p : Point} → opposite t c.0 ≡ absent → TriangleUsed t (of_face t (previous c.0))
      → RingUsed t (of_face t (previous c.0)).c2.0 → EndFits t 3 → InRange t (SplitEdge c p)
  split_inner : {c : Corner} {p : Point} → opposite t c.0 ≢ absent → AroundUsed t (at_edge t c.0)
      → RingUsed t (at_edge t c.0).c2.0 → EndFits t 6 → InRange t (SplitEdge c p)
  split_face : {f : Face} {p : Point} → TriangleUsed t (of_face t (first_corner f.0)) → EndFits t 6 → InRange t (SplitFace f p)

pub record Safe (t : Table) (e : Edit) : Type 0 where
  pub untangled : Untangled t
  pub in_range : answer t e ≡ 0 → InRange t e

-- so at every command of a run that is not refused as a whole, on whatever table: the table before command k, and command k on it
abbrev pub InsideRun : Type 0
InsideRun = (t : Table) (s answers : List ℕ) → (run t s answers).answer ≡ 0 → (k : ℕ) → Safe (commands s k 0 answers t).table (command_at s k)
