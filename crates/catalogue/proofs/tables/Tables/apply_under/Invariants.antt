use Rattle.std.proofs.Common.{[], ◌∷◌}
use Rattle.logic.specs.Axioms.{under}
use Rattle.catalogue.specs.Climbing.{Turns, UnderMet}
use Rattle.catalogue.proofs.tables.Tables.apply_under.Given as goal

abbrev pub invariant-loop-y : goal.invariant-loop-y
invariant-loop-y g l = Turns g.S.Scale.order (under l.r l.s l.mark ∷ []) (UnderMet g.S.Scale.order l.x l.r l.s l.mark) l.y l.initial.self l.self l.rose
