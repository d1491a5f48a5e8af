-- Document 01, "Building": the whole of it, from the points to the duplicates, as one function. It follows builder.rs, with its one
-- loop over a HashMap made ascending.
use Rattle.std.specs.Prelude.{ℕ, zero, suc, ◌+◌, ◌-◌, ◌*◌, ◌/◌, ◌%◌, Bool, true, false, cond, not, ◌&&◌, ◌||◌, List, [], ◌∷◌, ◌++◌, ◌≡◌, eqb, ltb, Float, length, set, replicate}
use Rattle.std.specs.Float.Ieee.Scale.{finite}
use Rattle.corner.specs.Corner.{absent, next, previous}
use Rattle.table.specs.Slots.{vertex_at, corner_at, nought, point_at, with_point, with_pair, relabel, three}
use Rattle.table.specs.Table.{Table, table, blank, corner_room, vertex_room, shaped, Shaped}
use Rattle.table.specs.Rules.{WellFormed}
use Rattle.ring.specs.Ring.{ring}

-- What a build answers, how many faces it skipped, and the table that it leaves.
pub record BuildOutcome : Type 0 where
  pub answer : ℕ
  pub skipped : ℕ
  pub result : Table

-- ... of these three
abbrev pub built : ℕ → ℕ → Table → BuildOutcome
built a skipped t = record { answer = a; skipped = skipped; result = t }

-- "A refusal other than 1 leaves" the blank table. "A refused build reports 0 skipped."
abbrev pub refused_build : (rc rv : ℕ) → ℕ → BuildOutcome
refused_build rc rv a = built a 0 (blank rc rv)

-- ---- points

-- "Points come as a lent list of f32, three to a point .. They are added in order": the numbers, and 0.0 in the slots after them.
unfoldable pub laid : ℕ → List Float → List Float
laid rv points = points ++ replicate (3 * rv - length points) nought

abbrev pub all_finite : List Float → Bool
all_finite [] = true
all_finite (x ∷ xs) = finite x && all_finite xs

-- ---- faces

-- What the faces so far have made: the corners' vertices and opposites, the vertices' corners, the number of corners, and the number
-- of faces skipped. All marks are still 0.
pub record SoFar : Type 0 where
  pub cv : List ℕ
  pub co : List ℕ
  pub vc : List ℕ
  pub nc : ℕ
  pub skipped : ℕ

-- no corner yet: the parts of a blank table
abbrev pub start : (rc rv : ℕ) → SoFar
start rc rv =
    record {
      cv = (blank rc rv).corner_vertex;
      co = (blank rc rv).corner_opposite;
      vc = (blank rc rv).vertex_corner;
      nc = 0;
      skipped = 0;
    }

-- "The edge opposite a corner runs from next's vertex to previous's vertex": does that of k run from x to y?
unfoldable pub edge_at : List ℕ → ℕ → ℕ → ℕ → Bool
edge_at cv x y k = eqb (vertex_at cv (next k)) x && eqb (vertex_at cv (previous k)) y

-- the plain search: the first of n corners from i on whose edge runs from x to y, or absent
unfoldable pub find_edge : List ℕ → ℕ → ℕ → ℕ → ℕ → ℕ
find_edge cv x y zero i = absent
find_edge cv x y (suc n) i = let r = find_edge cv x y n (suc i) in cond (edge_at cv x y i) i r

abbrev pub found : SoFar → ℕ → ℕ → ℕ
found s x y = find_edge s.cv x y s.nc 0

-- "an index not below the vertex count (2)"
abbrev pub known : ℕ → ℕ → ℕ → ℕ → Bool
known nv a b c = ltb a nv && (ltb b nv && ltb c nv)

-- "two equal indices (3, added by us)"
abbrev pub repeated : ℕ → ℕ → ℕ → Bool
repeated a b c = eqb a b || (eqb b c || eqb c a)

-- "a directed edge already held by a kept face"
abbrev pub held : SoFar → ℕ → ℕ → Bool
held s x y = not (eqb (found s x y) absent)

abbrev pub taken : SoFar → ℕ → ℕ → ℕ → Bool
taken s a b c = held s b c || (held s c a || held s a b)

-- "the face is skipped and counted, not refused"
abbrev pub skip : SoFar → SoFar
skip s = record { cv = s.cv; co = s.co; vc = s.vc; nc = s.nc; skipped = s.skipped + 1 }

-- "Each new corner is paired with the corner whose edge runs the other way, if there is one. A vertex's corner is the last one made
-- for it."
unfoldable pub grow : SoFar → ℕ → ℕ → ℕ → SoFar
grow s a b c =
    let n = s.nc in
    record {
      cv = three s.cv n a b c;
      co = with_pair (with_pair (with_pair s.co n (found s c b)) (n + 1) (found s a c)) (n + 2) (found s b a);
      vc = set (set (set s.vc a n) b (n + 1)) c (n + 2);
      nc = n + 3;
      skipped = s.skipped;
    }

-- where a face leads: to a refusal, or on
pub data Course : Type 0 where
  refuse : ℕ → Course
  go : SoFar → Course

-- "For each face, in this order": 2, 3, skipped, "no room for three corners (6)"
unfoldable pub face : (nv room : ℕ) → SoFar → ℕ → ℕ → ℕ → Course
face nv room s a b c =
    cond (known nv a b c)
    (cond (repeated a b c) (refuse 3)
    (cond (taken s a b c) (go (skip s))
    (cond (ltb room (s.nc + 3)) (refuse 6) (go (grow s a b c)))))
    (refuse 2)

abbrev pub on_course : Course → (SoFar → Course) → Course
on_course (refuse n) f = refuse n
on_course (go s) f = f s

-- "faces in triples; one or two indices left at the end are ignored"
unfoldable pub faces : (nv room : ℕ) → SoFar → List ℕ → Course
faces nv room s [] = go s
faces nv room s (a ∷ []) = go s
faces nv room s (a ∷ b ∷ []) = go s
faces nv room s (a ∷ b ∷ c ∷ fs) = on_course (face nv room s a b c) (λ t. faces nv room t fs)

-- ---- duplicates

-- What they change: the corners' vertices, the vertices' corners and points, and the number of vertices. It may pass the room: writes
-- past the end do nothing, and the build is then refused.
pub record Shared : Type 0 where
  pub cv : List ℕ
  pub vc : List ℕ
  pub vp : List Float
  pub nv : ℕ

abbrev pub mem : ℕ → List ℕ → Bool
mem d [] = false
mem d (x ∷ xs) = eqb d x || mem d xs

-- `fan` gives the corners of the fan of a corner
module _ (fan : ℕ → List ℕ) where
  -- "a new vertex at the same point takes the least of them and its fan": at v's point, the corner c
  unfoldable pub give : ℕ → ℕ → Shared → Shared
  give v c s =
      record {
        cv = relabel (fan c) s.nv s.cv;
        vc = set s.vc s.nv c;
        vp = with_point s.vp s.nv (point_at s.vp v);
        nv = s.nv + 1;
      }

  -- c is a corner of v outside the fan of v's corner
  unfoldable pub outside : ℕ → ℕ → Shared → Bool
  outside v c s = eqb (vertex_at s.cv c) v && not (mem c (fan (corner_at s.vc v)))

  -- "while corners are left": k corners from c on, ascending. One that is still left when its turn comes is the least of those left.
  unfoldable pub corners : ℕ → ℕ → ℕ → Shared → Shared
  corners v zero c s = s
  corners v (suc k) c s = corners v k (suc c) (cond (outside v c s) (give v c s) s)

  -- "Each other vertex, ascending, keeps the fan of its corner": k vertices from v on. One without a corner has nothing to keep.
  unfoldable pub vertices : (nc k v : ℕ) → Shared → Shared
  vertices nc zero v s = s
  vertices nc (suc k) v s = vertices nc k (suc v) (cond (eqb (corner_at s.vc v) absent) s (corners v nc 0 s))

-- "Each other vertex, ascending": every corner below the count is live here, so the fans are the rings by opposites alone
abbrev pub spread : ℕ → ℕ → List Float → SoFar → Shared
spread rv nv points k =
    vertices (ring k.co k.nc) k.nc nv 0 (record { cv = k.cv; vc = k.vc; vp = laid rv points; nv = nv })

-- "a vertex without a corner is marked deleted": k vertices from i on. A new vertex has a corner, so it is the same before the
-- duplicates and after them.
unfoldable pub isolated : List ℕ → ℕ → ℕ → List ℕ → List ℕ
isolated vc zero i m = m
isolated vc (suc k) i m = isolated vc k (suc i) (cond (eqb (corner_at vc i) absent) (set m i 1) m)

-- ---- the whole call

-- the corner slots of k as they are, with the vertices of s
abbrev pub done : (rc rv : ℕ) → SoFar → Shared → BuildOutcome
done rc rv k s =
    built 0 k.skipped
    (table s.cv k.co (replicate rc 0) s.vc (isolated s.vc s.nv 0 (replicate rv 0)) s.vp s.nv k.nc)

-- "If the duplicates don't fit, the build is refused (5)."
unfoldable pub finish : (rc rv nv : ℕ) → List Float → Course → BuildOutcome
finish rc rv nv points (refuse a) = refused_build rc rv a
finish rc rv nv points (go k) =
    cond (ltb rv (spread rv nv points k).nv) (refused_build rc rv 5) (done rc rv k (spread rv nv points k))

-- "Order over the call: 1; more points than room (5); a point not finite (4); faces; duplicates." Answer 1: "lent parts disagree in
-- length, or room above the maximum", or points in another length than threes; "nothing written", and the counts handed back.
unfoldable pub build : Table → List Float → List ℕ → BuildOutcome
build t points fs =
    let rc = corner_room t in
    let rv = vertex_room t in
    let nv = length points / 3 in
    cond (shaped t && eqb (length points % 3) 0)
    (cond (ltb rv nv) (refused_build rc rv 5)
    (cond (all_finite points) (finish rc rv nv points (faces nv rc (start rc rv) fs)) (refused_build rc rv 4)))
    (built 1 0 t)

-- The promise, for every input: a finished build leaves a well-formed table.
abbrev pub Finished : BuildOutcome → Type 0
Finished o = o.answer ≡ 0 → Shaped o.result × WellFormed o.result
