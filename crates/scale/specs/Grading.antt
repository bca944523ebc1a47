-- The words of grades. Assumes nothing.
use Rattle.std.proofs.Common.{rules}
use Rattle.scale.specs.Words.{NoSlash}
use Rattle.scale.specs.Forms.{Forms}
use Rattle.scale.specs.Grades.{grade_bytes}
use Rattle.scale.specs.declared.grades.Grade.{Grade}

-- the laws of the grades' forms
pub grade_forms : Forms grade_bytes 7
grade_forms = search rules

-- no grade's word has a slash
pub grade_no_slash : (g : Grade) → NoSlash (grade_bytes g)
grade_no_slash = search rules
