-- The tests one after the other, and the verdict. Document 01, "Well-formed": "The checker names the lowest broken rule, then the lowest
-- slot that breaks it"; the order of the tests is that of `kinds Kinds`.
use Rattle.std.specs.Prelude.{ℕ, Bool, cond, ltb, leb}
use Rattle.table.specs.Table.{Table, shaped}
use Rattle.checker_kinds.specs.Kinds.{tests, test_at, rule_of, span, slot_of}
use Rattle.checker_kinds.specs.declared.Test.{Test}
use Rattle.checker_rules.specs.Tests.{holds}
use Rattle.checker.specs.First.{first_bad}
use Rattle.checker.specs.Verdict.{Verdict}

-- the first index that fails a test, and whether none does
unfoldable pub first_of : Test → Table → ℕ
first_of test t = first_bad (holds test t) (span test t.vertices t.corners)

unfoldable pub clean : Table → ℕ → Bool
clean t k = leb (span (test_at k) t.vertices t.corners) (first_of (test_at k) t)

-- 0, 1 and 7
abbrev pub passed : Verdict
passed = record { answer = 0; rule = 0; slot = 0 }

abbrev pub disagree : Verdict
disagree = record { answer = 1; rule = 0; slot = 0 }

abbrev pub broken : ℕ → ℕ → Verdict
broken rule slot = record { answer = 7; rule = rule; slot = slot }

abbrev pub blame : Table → Test → Verdict
blame t test = broken (rule_of test) (slot_of test (first_of test t))

-- the k-th test is the first that is not clean
abbrev pub after : Table → ℕ → Verdict
after t k = cond (ltb k tests) (blame t (test_at k)) passed

unfoldable pub ruled : Table → Verdict
ruled t = after t (first_bad (clean t) tests)

unfoldable pub verdict_of : Table → Verdict
verdict_of t = cond (shaped t) (ruled t) disagree
