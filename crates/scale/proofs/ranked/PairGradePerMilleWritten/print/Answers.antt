use Rattle.std.proofs.Common.{[], ◌∷◌, ◌++◌, sym, append_assoc, arith, length-append}
use Rattle.scale.specs.Words.{slash}
use Rattle.scale.specs.Grades.{grade_bytes}
use Rattle.scale.specs.Thousandths.{mille_bytes}
use Rattle.scale.proofs.Printing.{printed_append, printed_then, printed_same}
use Rattle.scale.proofs.ranked.PairGradePerMilleWritten.print.Goals as goal

pub returns : goal.returns
returns c =
    let grade = grade_bytes c.args.self.first in
    let mille = mille_bytes c.args.self.second in
    let long = length-append grade (slash ∷ mille) in
    let front = length-append grade (slash ∷ []) in
    let head = printed_append _ _ _ _ _ _ grade (slash ∷ []) c.in_ok-cut.ensures c.in_ok-rest.ensures in
    printed_same _ ((grade ++ (slash ∷ [])) ++ mille) _ _ _ _
    (printed_then _ _ _ _ _ c.print-2.result _ mille (omega (arith, c.in_ok-end_of.ensures)) head c.print-2.ensures)
    (sym (append_assoc grade (slash ∷ []) mille))
