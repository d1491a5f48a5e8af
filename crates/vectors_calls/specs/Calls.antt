-- Records 4 and 6: what the build and the run leave that they call.
use Rattle.std.specs.Prelude.{ℕ, ◌+◌, Bool, ◌&&◌, List, eqb, leb, length, get_or, take, drop, replicate}
use Rattle.table.specs.Table.{Table}
use Rattle.builder_build.specs.Build.{build}
use Rattle.script.specs.Run.{run}
use Rattle.words.specs.Same.{one_unless, holds_of}
use Rattle.words.specs.Words.{tabled, number_no}
use Rattle.vectors_looks.specs.Judge.{two_are, three_are}
use Rattle.vectors_changes.specs.Change.{Played, played}

-- "4 build: answer, skipped, vertices, corners; p; p words (bits of the points); the rest: the faces' words: calls build; the first four are
-- what it must answer; the counts become the answer's": with n numbers for the points
unfoldable pub faces_of : List ℕ → List ℕ
faces_of w = drop (5 + get_or w 4 0) w

unfoldable pub built_as : List ℕ → (answer skipped vertices corners : ℕ) → Bool
built_as w a s v c = two_are w 0 a s && two_are w 2 v c

unfoldable pub build_right : List ℕ → ℕ → (answer skipped vertices corners : ℕ) → Bool
build_right w n a s v c = built_as w a s v c && (eqb n (get_or w 4 0) && leb (5 + get_or w 4 0) (length w))

unfoldable pub build_left : Table → List ℕ → ℕ → Played
build_left t w n =
    let o = build t (tabled n (number_no (drop 5 w) 0)) (faces_of w) in
    played (one_unless (build_right w n o.answer o.skipped o.result.vertices o.result.corners)) o.result

-- "6 run: answer, rule, slot, vertices, corners; s; s script words; a; fill; a answer words: calls run with s script words and a answer words
-- that all hold the fill before; afterwards the answer words must be the listed ones; the counts become the answer's": with n answer words
unfoldable pub script_of : List ℕ → List ℕ
script_of w = take (get_or w 5 0) (drop 6 w)

unfoldable pub answer_room : List ℕ → ℕ
answer_room w = get_or w (6 + get_or w 5 0) 0

unfoldable pub answer_fill : List ℕ → ℕ
answer_fill w = get_or w (7 + get_or w 5 0) 0

unfoldable pub answers_as : List ℕ → List ℕ → Bool
answers_as w answers = holds_of answers (drop (8 + get_or w 5 0) w) 0

unfoldable pub answers_sized : List ℕ → ℕ → Bool
answers_sized w n = eqb n (answer_room w) && eqb (length w) (8 + get_or w 5 0 + answer_room w)

unfoldable pub ran_as : List ℕ → (answer rule slot vertices corners : ℕ) → Bool
ran_as w a r s v c = three_are w 0 a r s && two_are w 3 v c

unfoldable pub run_right : List ℕ → List ℕ → (answer rule slot vertices corners : ℕ) → Bool
run_right w answers a r s v c = (ran_as w a r s v c && answers_as w answers) && answers_sized w (length answers)

unfoldable pub run_left : Table → List ℕ → ℕ → Played
run_left t w n =
    let o = run t (script_of w) (replicate n (answer_fill w)) in
    let u = o.progress.table in
    played (one_unless (run_right w o.progress.answers o.answer o.rule o.slot u.vertices u.corners)) u
