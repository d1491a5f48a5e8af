-- docs/FORMATS.md: what is wrong with a patch file.
use Rattle.std.specs.Prelude.{ℕ, ◌+◌, ◌*◌, not, List, eqb, ltb, get_or, take, drop, Result, Ok, Err}
use Rattle.script_command.specs.Checks.{first, when}
use Rattle.patch_file.specs.declared.FileFault.{FileFault}
use Rattle.patch_file.specs.declared.FileFault.TheVariants.{Empty, NotAPatch, AboveALimit, CutShort, TooLong}

-- "STR1"
abbrev pub magic : ℕ
magic = 827479123

-- how long a file with so many points, faces and commands is
abbrev pub size : (points faces commands : ℕ) → ℕ
size points faces commands = 16 + 12 * points + 12 * faces + 20 * commands

-- "at most 16,384 points, 32,768 faces and 16,384 commands": 3
unfoldable pub limited : (points faces commands : ℕ) → ℕ
limited points faces commands = first (when (ltb 16384 points) 3) (first (when (ltb 32768 faces) 3) (when (ltb 16384 commands) 3))

-- 4 cut short, 5 longer than it says
unfoldable pub ended : (bytes said : ℕ) → ℕ
ended bytes said = first (when (ltb bytes said) 4) (when (ltb said bytes) 5)

-- 1 empty, 2 no patch, 4 too short for its four words; 0 nothing
unfoldable pub fault_of : List ℕ → ℕ → ℕ
fault_of words bytes =
    first (when (eqb bytes 0) 1)
    (first (when (not (eqb (get_or words 0 0) magic)) 2)
    (first (when (ltb bytes 16) 4)
    (first (limited (get_or words 1 0) (get_or words 2 0) (get_or words 3 0))
    (ended bytes (size (get_or words 1 0) (get_or words 2 0) (get_or words 3 0))))))

-- the numbers of the faults
abbrev pub number_of : FileFault → ℕ
number_of Empty = 1
number_of NotAPatch = 2
number_of AboveALimit = 3
number_of CutShort = 4
number_of TooLong = 5

abbrev pub answer_of : {A : Type 0} → Result A FileFault → ℕ
answer_of (Ok _) = 0
answer_of (Err e) = number_of e

-- "then three words for each point, three for each face, five for each command"
abbrev pub point_words : List ℕ → List ℕ
point_words words = take (3 * get_or words 1 0) (drop 4 words)

abbrev pub face_words : List ℕ → List ℕ
face_words words = take (3 * get_or words 2 0) (drop (4 + 3 * get_or words 1 0) words)

abbrev pub script_words : List ℕ → List ℕ
script_words words = take (5 * get_or words 3 0) (drop (4 + 3 * get_or words 1 0 + 3 * get_or words 2 0) words)
