-- The six searches of a face in one pass. What they find is `find_edge` of the build, six times.
use Rattle.std.specs.Prelude.{ℕ, ◌+◌, Bool, cond, ◌&&◌, ◌||◌, List, Option, Some, None, eqb, is_some, is_none}
use Rattle.corner.specs.Corner.{absent}
use Rattle.corner.specs.declared.Corner.{Corner}
use Rattle.table.specs.Slots.{vertex_at}
use Rattle.builder_build.specs.Build.{find_edge}
use Rattle.builder_edges.specs.declared.Found.{Found}

abbrev pub the_corner : ℕ → Corner
the_corner k = record { 0 = k }

-- a number that may be absent, as the corner that there is, if there is one
unfoldable pub met : ℕ → Option Corner
met k = cond (eqb k absent) None (Some (the_corner k))

-- the first corner whose edge runs from b to c, from c to a, and so on, of the first n
unfoldable pub sought : List ℕ → (n a b c : ℕ) → Found
sought cv n a b c =
    record {
      bc = met (find_edge cv b c n 0);
      ca = met (find_edge cv c a n 0);
      ab = met (find_edge cv a b n 0);
      cb = met (find_edge cv c b n 0);
      ac = met (find_edge cv a c n 0);
      ba = met (find_edge cv b a n 0);
    }

-- what the search from x to y has, once it has seen the corner k: the first is kept
unfoldable pub noted : Option Corner → (k tail head x y : ℕ) → Option Corner
noted o k tail head x y = cond (eqb tail x && (eqb head y && is_none o)) (Some (the_corner k)) o

unfoldable pub look_of : Found → (k tail head a b c : ℕ) → Found
look_of f k tail head a b c =
    record {
      bc = noted f.bc k tail head b c;
      ca = noted f.ca k tail head c a;
      ab = noted f.ab k tail head a b;
      cb = noted f.cb k tail head c b;
      ac = noted f.ac k tail head a c;
      ba = noted f.ba k tail head b a;
    }

-- the three corners of the face from i on
unfoldable pub face_look : List ℕ → (i a b c : ℕ) → Found → Found
face_look cv i a b c f =
    let x = vertex_at cv i in
    let y = vertex_at cv (i + 1) in
    let z = vertex_at cv (i + 2) in
    look_of (look_of (look_of f i y z a b c) (i + 1) z x a b c) (i + 2) x y a b c

abbrev pub among_of : (x a b c : ℕ) → Bool
among_of x a b c = eqb x a || (eqb x b || eqb x c)

abbrev pub touched : (x y z a b c : ℕ) → Bool
touched x y z a b c = among_of x a b c || (among_of y a b c || among_of z a b c)

-- one of the three was found
abbrev pub taken_by : Found → Bool
taken_by f = is_some f.bc || (is_some f.ca || is_some f.ab)
