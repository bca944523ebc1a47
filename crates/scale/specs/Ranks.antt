-- The written form of a ranked mark: its grade, a slash, and its per-mille mark. Assumes nothing.
use Rattle.std.specs.Prelude.{ℕ, List, ◌∷◌, ◌++◌}
use Rattle.scale.specs.Words.{slash}
use Rattle.scale.specs.Grades.{grade_bytes}
use Rattle.scale.specs.Thousandths.{mille_bytes}
use Rattle.scale.specs.declared.pairs.Pair.{Pair}
use Rattle.scale.specs.declared.grades.Grade.{Grade}
use Rattle.scale.specs.declared.per_mille.PerMille.{PerMille}

abbrev pub ranked_bytes : Pair Grade PerMille → List ℕ
ranked_bytes m = grade_bytes m.first ++ (slash ∷ mille_bytes m.second)
