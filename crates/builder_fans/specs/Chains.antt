-- The duplicates as the code does them: corners in the fan of their vertex's corner are marked, the others are threaded into a chain for
-- each vertex, and the chains are followed. The whole is `vertices` of the build (proofs/Agree.antt, `fast_plain`).
use Rattle.std.specs.Prelude.{ℕ, zero, suc, ◌+◌, ◌-◌, ◌≤◌, ◌<◌, ◌≡◌, cond, List, [], ◌∷◌, eqb, ltb, Float, Result, Ok, Err, get_or, set, length}
use Rattle.refusal.specs.declared.Refusal.{Refusal}
use Rattle.refusal.specs.Refusal.{number_of}
use Rattle.corner.specs.Corner.{absent}
use Rattle.table.specs.Slots.{vertex_at, corner_at, relabel}
use Rattle.table.specs.Table.{Table, table, with_corner_mark}
use Rattle.ring.specs.Ring.{ring}
use Rattle.builder_build.specs.Build.{Shared, give}

abbrev pub shared : List ℕ → List ℕ → List Float → ℕ → Shared
shared cv vc vp u = record { cv = cv; vc = vc; vp = vp; nv = u }

-- what the duplicates change of a table, and the table with that changed
abbrev pub shared_of : Table → Shared
shared_of t = shared t.corner_vertex t.vertex_corner t.vertex_point t.vertices

abbrev pub with_shared : Table → Shared → Table
with_shared t s = table s.cv t.corner_opposite t.corner_mark s.vc t.vertex_mark s.vp s.nv t.corners

abbrev pub with_vertex_mark : Table → List ℕ → Table
with_vertex_mark t l =
    table t.corner_vertex t.corner_opposite t.corner_mark t.vertex_corner l t.vertex_point t.vertices t.corners

-- the vertices are within the room, and the room's slots have numbers
pub record Roomy (room : ℕ) (t : Table) : Type 0 where
  pub most : room < absent
  pub few : t.vertices ≤ room

-- each part is as long as it was
pub record SameRooms (t u : Table) : Type 0 where
  pub cv : length u.corner_vertex ≡ length t.corner_vertex
  pub co : length u.corner_opposite ≡ length t.corner_opposite
  pub cm : length u.corner_mark ≡ length t.corner_mark
  pub vc : length u.vertex_corner ≡ length t.vertex_corner
  pub vm : length u.vertex_mark ≡ length t.vertex_mark
  pub vp : length u.vertex_point ≡ length t.vertex_point

-- what the code leaves of a pass over the table t that ends in s: all of it where its vertices fit, or else a refusal, and t but for what is shared
abbrev pub Ended : {A : Type 0} → ℕ → Table → Shared → Table → Result A Refusal → Type 0
Ended room t s u (Ok _) = (u ≡ with_shared t s) × (s.nv ≤ room)
Ended room t s u (Err e) = (number_of e ≡ 5) × (room < s.nv) × (u ≡ with_shared t (shared_of u))

-- the corners' marks and the vertices' marks while they hold the chains
pub record Threads : Type 0 where
  pub link : List ℕ
  pub head : List ℕ

abbrev pub threads : List ℕ → List ℕ → Threads
threads l h = record { link = l; head = h }

abbrev pub with_threads : Table → Threads → Table
with_threads t k = with_vertex_mark (with_corner_mark t k.link) k.head

-- a corner that is left goes to the front of its vertex's chain
unfoldable pub thread_of : List ℕ → ℕ → Threads → Threads
thread_of cv c t =
    cond (eqb (get_or t.link c 0) 0)
    (threads (set t.link c (get_or t.head (vertex_at cv c) 0)) (set t.head (vertex_at cv c) (c + 2)))
    t

-- the corners below k, from the last to the first
unfoldable pub threaded : List ℕ → ℕ → Threads → Threads
threaded cv zero t = t
threaded cv (suc k) t = threaded cv k (thread_of cv k t)

-- the chain from h on, at most k of it: 0 is its end, c + 2 the corner c
unfoldable pub chain : List ℕ → ℕ → ℕ → List ℕ
chain link zero h = []
chain link (suc k) h = let r = chain link k (get_or link (h - 2) 0) in cond (ltb h 2) [] ((h - 2) ∷ r)

module _ (fan : ℕ → List ℕ) where
  unfoldable pub mark_of : List ℕ → ℕ → List ℕ → List ℕ
  mark_of vc v m = cond (eqb (corner_at vc v) absent) m (relabel (fan (corner_at vc v)) 1 m)

  -- k vertices from v on: the fan of each one's corner is marked
  unfoldable pub marked : List ℕ → ℕ → ℕ → List ℕ → List ℕ
  marked vc zero v m = m
  marked vc (suc k) v m = marked vc k (suc v) (mark_of vc v m)

  -- a corner that is still v's gets a new vertex
  unfoldable pub step_of : ℕ → ℕ → Shared → Shared
  step_of v c s = cond (eqb (vertex_at s.cv c) v) (give fan v c s) s

  unfoldable pub takes : ℕ → List ℕ → Shared → Shared
  takes v [] s = s
  takes v (c ∷ cs) s = takes v cs (step_of v c s)

  unfoldable pub vertex_of : List ℕ → List ℕ → (n v : ℕ) → Shared → Shared
  vertex_of link head n v s = takes v (chain link n (get_or head v 0)) s

  -- k vertices from v on
  unfoldable pub spread_over : List ℕ → List ℕ → (n k v : ℕ) → Shared → Shared
  spread_over link head n zero v s = s
  spread_over link head n (suc k) v s = spread_over link head n k (suc v) (vertex_of link head n v s)

-- the same on a table, whose marks hold the chains
abbrev pub rings : Table → ℕ → List ℕ
rings t = ring t.corner_opposite t.corners

abbrev pub chain_from : Table → (v h : ℕ) → Shared → Shared
chain_from t v h s = takes (rings t) v (chain t.corner_mark t.corners h) s

abbrev pub chain_of : Table → ℕ → Shared → Shared
chain_of t v s = vertex_of (rings t) t.corner_mark t.vertex_mark t.corners v s

abbrev pub chains_of : Table → (k v : ℕ) → Shared → Shared
chains_of t k v s = spread_over (rings t) t.corner_mark t.vertex_mark t.corners k v s

unfoldable pub isolate_of : List ℕ → ℕ → List ℕ → List ℕ
isolate_of vc i m = cond (eqb (corner_at vc i) absent) (set m i 1) m
