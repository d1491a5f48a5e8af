-- The slots of one lent list: what a read finds, also past the end, and what a write leaves. A write past the end changes nothing.
use Rattle.std.specs.Prelude.{ℕ, ◌+◌, ◌*◌, List, [], ◌∷◌, Float, get_or, set, replicate, length}
use Rattle.std.specs.Float.Ieee.{of_bits}
use Rattle.std.specs.Float.{binary32}
use Rattle.corner.specs.Corner.{absent}
use Rattle.vertex.specs.declared.Point.{Point}

-- past the end a corner has vertex 0 and no opposite, a vertex has no corner, and a mark says deleted
abbrev pub vertex_at : List ℕ → ℕ → ℕ
vertex_at cv c = get_or cv c 0

abbrev pub opposite_at : List ℕ → ℕ → ℕ
opposite_at co c = get_or co c absent

abbrev pub corner_at : List ℕ → ℕ → ℕ
corner_at vc v = get_or vc v absent

abbrev pub mark_at : List ℕ → ℕ → ℕ
mark_at marks i = get_or marks i 1

-- 0.0
unfoldable pub nought : Float
nought = of_bits binary32 0

-- the point of v: three numbers from 3 v on
abbrev pub point_at : List Float → ℕ → Point
point_at vp v = record { x = get_or vp (3 * v) nought; y = get_or vp (3 * v + 1) nought; z = get_or vp (3 * v + 2) nought }

abbrev pub with_point : List Float → ℕ → Point → List Float
with_point vp v p = set (set (set vp (3 * v) p.x) (3 * v + 1) p.y) (3 * v + 2) p.z

-- a and b opposite to each other. Where one is absent its slot lies past every room, and nothing is written for it
abbrev pub with_pair : List ℕ → ℕ → ℕ → List ℕ
with_pair co a b = set (set co a b) b a

-- v at each of the given slots
abbrev pub relabel : List ℕ → ℕ → List ℕ → List ℕ
relabel [] v l = l
relabel (c ∷ cs) v l = relabel cs v (set l c v)

-- three in a row from n on, as a new face has them
abbrev pub three : List ℕ → (n a b c : ℕ) → List ℕ
three l n a b c = set (set (set l n a) (n + 1) b) (n + 2) c

-- v in every slot
abbrev pub blanked : {A : Type 0} → A → List A → List A
blanked v l = replicate (length l) v

-- values one after another from n on
abbrev pub stored : List ℕ → ℕ → List ℕ → List ℕ
stored l n [] = l
stored l n (v ∷ vs) = stored (set l n v) (n + 1) vs
