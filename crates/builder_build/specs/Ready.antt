-- What holds while faces are added, and what the duplicates rest on: R1 to R4 of the corners so far, all of them live.
use Rattle.std.specs.Prelude.{ℕ, ◌≤◌, ◌<◌, ◌%◌, ◌≡◌, ◌≢◌, ◌⊎◌, length}
use Rattle.corner.specs.Corner.{next, previous, absent}
use Rattle.table.specs.Slots.{vertex_at, opposite_at, corner_at}
use Rattle.table.specs.Table.{max_corners}
use Rattle.table.specs.Rules.{Mate}
use Rattle.builder_build.specs.Build.{SoFar}

-- the corners d and k have the same directed edge
pub record Same (f g : ℕ → ℕ) (d k : ℕ) : Type 0 where
  pub tail : f (next d) ≡ g (next k)
  pub head : f (previous d) ≡ g (previous k)

-- what the faces so far have: R1 to R4 where all corners below n are live, and each directed edge once
pub record Paired (n : ℕ) (opp vtx : ℕ → ℕ) : Type 0 where
  pub thirds : n % 3 ≡ 0
  pub small : n ≤ absent
  pub differ : (c : ℕ) → c < n → vtx c ≢ vtx (next c)
  pub mate : (c : ℕ) → c < n → opp c ≢ absent → Mate (λ d. d < n) opp vtx c (opp c)
  pub once : (c d : ℕ) → c < n → d < n → Same vtx vtx c d → c ≡ d

-- the rooms and counts; each corner's vertex is known; a vertex with a corner has one of its own, and a corner's vertex has one
pub record Ready (nv room vroom : ℕ) (s : SoFar) : Type 0 where
  pub cv_length : length s.cv ≡ room
  pub co_length : length s.co ≡ room
  pub vc_length : length s.vc ≡ vroom
  pub vertices : nv ≤ vroom
  pub most : room ≤ max_corners
  pub fits : s.nc ≤ room
  pub paired : Paired s.nc (opposite_at s.co) (vertex_at s.cv)
  pub below : (c : ℕ) → c < s.nc → vertex_at s.cv c < nv
  pub home : (v : ℕ) → (corner_at s.vc v ≡ absent) ⊎ ((corner_at s.vc v < s.nc) × (vertex_at s.cv (corner_at s.vc v) ≡ v))
  pub has : (c : ℕ) → c < s.nc → corner_at s.vc (vertex_at s.cv c) ≢ absent
