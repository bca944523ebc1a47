-- The grade scale: absent, trace, partial, strong and full, rising in that order. Assumes nothing.
use Rattle.std.specs.Prelude.{ℕ, List, codes}
use Rattle.scale.specs.Order.{Chain, numbered}
use Rattle.scale.specs.declared.grades.Grade.{Grade}
use Rattle.scale.specs.declared.grades.Grade.TheVariants.{Absent, Trace, Partial, Strong, Full}

abbrev pub rank : Grade → ℕ
rank Absent = 0
rank Trace = 1
rank Partial = 2
rank Strong = 3
rank Full = 4

abbrev pub grade_order : Chain Grade
grade_order = numbered rank Absent Full

-- a grade is written as its word
abbrev pub grade_bytes : Grade → List ℕ
grade_bytes Absent = codes "absent"
grade_bytes Trace = codes "trace"
grade_bytes Partial = codes "partial"
grade_bytes Strong = codes "strong"
grade_bytes Full = codes "full"
