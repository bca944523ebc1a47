use Rattle.std.proofs.Common.{◌≡◌, ◌<◌}
use Rattle.scale.specs.Grades.{rank, grade_bytes}
use Rattle.scale.specs.declared.grades.Grade.{Grade}
use Rattle.scale.proofs.grades.GradeWritten.read.Given as goal

abbrev pub invariant-loop-grade : goal.invariant-loop-grade
invariant-loop-grade l = (g : Grade) → rank g < l.grade-index → l.word ≡ grade_bytes g → ⊥
