-- Points. Document 01, "What a table holds": a point of three f32 numbers.
use Rattle.std.specs.Prelude.{ℕ, Bool, ◌&&◌}
use Rattle.std.specs.Float.{binary32}
use Rattle.std.specs.Float.Ieee.{of_bits}
use Rattle.std.specs.Float.Ieee.Scale.{finite}
use Rattle.vertex.specs.declared.Point.{Point}

-- R6: "finite (IEEE 754: not infinity, not NaN)", for all three numbers
abbrev pub finite_point : Point → Bool
finite_point p = finite p.x && (finite p.y && finite p.z)

-- "the bits of x, y, z"
unfoldable pub point_of_bits : ℕ → ℕ → ℕ → Point
point_of_bits x y z = record { x = of_bits binary32 x; y = of_bits binary32 y; z = of_bits binary32 z }
