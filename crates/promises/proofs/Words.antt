-- The answer words of a script, one by one. Assumes nothing.
use Prim.Native.Nat.{ℕ, zero, suc, ◌+◌, ◌/◌, ◌≤◌, ◌<◌}
use mathlib.Core.Path.{◌≡◌, refl, sym, ap, ◌∙◌}
use mathlib.Core.Bool.{Bool, true, false, cond, not}
use mathlib.Core.List.{List}
use native.Mathlib.Omega.{arith}
use lib.Dec.{eqb, ltb}
use lib.ListN.{length, get_or, set, length-set}
use lib.Seq.{get_or-set_same, get_or-set_other}
use Rattle.corner.specs.Corner.{absent, first_corner}
use Rattle.vertex.specs.declared.Point.{Point}
use Rattle.vertex.specs.Point.{finite_point}
use Rattle.table.specs.Slots.{mark_at}
use Rattle.table.specs.Table.{Table, corner_room, vertex_room, vertex, opposite}
use Rattle.edge_collapse.specs.EdgeCollapse.{affects_boundary, unsafe}
use Rattle.script_command.specs.declared.Edit.TheVariants.{Collapse, Flip, SplitEdge, SplitFace, Unknown}
use Rattle.script_command.specs.Decode.{command_at}
use Rattle.script_command.specs.Checks.{first, when, targeted, room_for}
use Rattle.script_answers.specs.Answers.{corner_target, not_finite, same_wings, collapse_answer, flip_answer, split_edge_answer, split_face_answer, answer}
use Rattle.script_step.specs.Step.{step}
use Rattle.script.specs.Commands.{commands}
use Rattle.promises.specs.Promises.{EachWord, OtherWords, AtMost14}

-- commands from j on leave the words before j, and those after the last command
before : (s : List ℕ) (n j : ℕ) (answers : List ℕ) (t : Table) (d : ℕ) → d < j → get_or (commands s n j answers t).answers d 0 ≡ get_or answers d 0
unfolding commands
before s zero j answers t d h = refl
before s (suc n) j answers t d h =
    before s n (j + 1) (set answers j (answer t (command_at s j))) (step t (command_at s j)) d (omega arith)
    ∙ get_or-set_other answers j d (answer t (command_at s j)) 0 (omega arith)

after : (s : List ℕ) (n j : ℕ) (answers : List ℕ) (t : Table) (d : ℕ) → j + n ≤ d → get_or (commands s n j answers t).answers d 0 ≡ get_or answers d 0
unfolding commands
after s zero j answers t d h = refl
after s (suc n) j answers t d h =
    after s n (j + 1) (set answers j (answer t (command_at s j))) (step t (command_at s j)) d (omega arith)
    ∙ get_or-set_other answers j d (answer t (command_at s j)) 0 (omega arith)

each : (s : List ℕ) (n i j d : ℕ) (answers : List ℕ) (t : Table) → i < n → j + i ≡ d → d < length answers
    → get_or (commands s n j answers t).answers d 0 ≡ answer (commands s i j answers t).table (command_at s d)
unfolding commands
each s zero i j d answers t h e l = absurd (omega arith)
each s (suc n) zero j d answers t h e l =
    let z : j ≡ d = omega arith in
    let a : ℕ = answer t (command_at s j) in
    before s n (j + 1) (set answers j a) (step t (command_at s j)) d (omega arith)
    ∙ ap (λ (x : ℕ). get_or (set answers j a) x 0) (sym z) ∙ get_or-set_same answers j a 0 (omega arith)
    ∙ ap (λ (x : ℕ). answer t (command_at s x)) z
each s (suc n) (suc i) j d answers t h e l =
    each s n i (j + 1) d (set answers j (answer t (command_at s j))) (step t (command_at s j)) (omega arith) (omega arith) (rw length-set l)

pub each_word : EachWord
each_word t s answers n i h l = each s n i 0 i answers t h (omega arith) l

pub other_words : OtherWords
other_words t s answers n i h = after s n 0 answers t i (omega arith)

-- ---- the numbers that a command answers

first_most : (a b : ℕ) → a ≤ 14 → b ≤ 14 → first a b ≤ 14
unfolding first
first_most a b p q = go (eqb a 0)
  where
    go : (x : Bool) → cond x b a ≤ 14
    go true = q
    go false = p

when_most : (x : Bool) (n : ℕ) → n ≤ 14 → when x n ≤ 14
when_most true n h = h
when_most false n h = omega arith

target_most : (used : Bool) (m : ℕ) → targeted used m ≤ 14
unfolding targeted
target_most true m = when_most (not (eqb m 0)) 10 (omega arith)
target_most false m = omega arith

corner_most_lem : (t : Table) (c : ℕ) → corner_target t c ≤ 14
corner_most_lem t c = target_most (ltb c t.corners) (mark_at t.corner_mark c)

point_most : (p : Point) → not_finite p ≤ 14
point_most p = when_most (not (finite_point p)) 4 (omega arith)

wings_most : (t : Table) (c : ℕ) → same_wings t c ≤ 14
wings_most t c = when_most (eqb (vertex t c) (vertex t (opposite t c))) 12 (omega arith)

room_most : (n r c s k : ℕ) → room_for n r c s k ≤ 14
unfolding room_for
room_most n r c s k = first_most _ _ (when_most (ltb r (n + 1)) 5 (omega arith)) (when_most (ltb s (c + k)) 6 (omega arith))

pub at_most_14 : AtMost14
unfolding answer collapse_answer flip_answer split_edge_answer split_face_answer
at_most_14 t (Collapse c p) =
    first_most _ _ (corner_most_lem t c.0)
    (first_most _ _ (point_most p)
    (first_most _ _ (when_most (affects_boundary t c.0) 11 (omega arith))
    (first_most _ _ (wings_most t c.0) (when_most (unsafe t c.0) 13 (omega arith)))))
at_most_14 t (Flip c) =
    first_most _ _ (corner_most_lem t c.0) (first_most _ _ (when_most (eqb (opposite t c.0) absent) 11 (omega arith)) (wings_most t c.0))
at_most_14 t (SplitEdge c p) =
    first_most _ _ (corner_most_lem t c.0) (first_most _ _ (point_most p) (room_most t.vertices (vertex_room t) t.corners (corner_room t) _))
at_most_14 t (SplitFace f p) =
    first_most _ _ (target_most (ltb f.0 (t.corners / 3)) (mark_at t.corner_mark (first_corner f.0)))
    (first_most _ _ (point_most p) (room_most t.vertices (vertex_room t) t.corners (corner_room t) 6))
at_most_14 t Unknown = omega arith
