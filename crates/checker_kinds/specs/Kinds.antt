-- The order of the tests. Document 01, "Well-formed": "The checker names the lowest broken rule, then the lowest slot that breaks it (R1:
-- slot 0; R2: corner marks not 0 or 1, then faces by their first corner, then vertices; R3: corners with a wrong vertex, then faces by
-- their first corner; R5: vertices whose corner is wrong first, then corners outside their fan)."
use Rattle.std.specs.Prelude.{ℕ, zero, suc, ◌-◌, ◌%◌}
use Rattle.checker_kinds.specs.declared.Test.{Test}
use Rattle.checker_kinds.specs.declared.Test.TheVariants.{Counts, CornerMark, FaceMark, VertexMark, CornerVertex}
use Rattle.checker_kinds.specs.declared.Test.TheVariants.{FaceVertex, Opposite, VertexCorner, CornerFan, Finite}

-- how many tests there are, and which comes when
abbrev pub tests : ℕ
tests = 10

unfoldable pub test_at : ℕ → Test
test_at zero = Counts
test_at (suc zero) = CornerMark
test_at (suc (suc zero)) = FaceMark
test_at (suc (suc (suc zero))) = VertexMark
test_at (suc (suc (suc (suc zero)))) = CornerVertex
test_at (suc (suc (suc (suc (suc zero))))) = FaceVertex
test_at (suc (suc (suc (suc (suc (suc zero)))))) = Opposite
test_at (suc (suc (suc (suc (suc (suc (suc zero))))))) = VertexCorner
test_at (suc (suc (suc (suc (suc (suc (suc (suc zero)))))))) = CornerFan
test_at (suc (suc (suc (suc (suc (suc (suc (suc (suc k))))))))) = Finite

-- which rule a test belongs to
unfoldable pub rule_of : Test → ℕ
rule_of Counts = 1
rule_of CornerMark = 2
rule_of FaceMark = 2
rule_of VertexMark = 2
rule_of CornerVertex = 3
rule_of FaceVertex = 3
rule_of Opposite = 4
rule_of VertexCorner = 5
rule_of CornerFan = 5
rule_of Finite = 6

-- over how many slots it goes: used corners, or used vertices; the counts are one thing to test
unfoldable pub span : Test → (nv nc : ℕ) → ℕ
span Counts nv nc = 1
span CornerMark nv nc = nc
span FaceMark nv nc = nc
span VertexMark nv nc = nv
span CornerVertex nv nc = nc
span FaceVertex nv nc = nc
span Opposite nv nc = nc
span VertexCorner nv nc = nv
span CornerFan nv nc = nc
span Finite nv nc = nv

-- the slot that is named for an index that fails: "faces by their first corner"
unfoldable pub slot_of : Test → ℕ → ℕ
slot_of Counts i = i
slot_of CornerMark i = i
slot_of FaceMark i = i - i % 3
slot_of VertexMark i = i
slot_of CornerVertex i = i
slot_of FaceVertex i = i - i % 3
slot_of Opposite i = i
slot_of VertexCorner i = i
slot_of CornerFan i = i
slot_of Finite i = i
