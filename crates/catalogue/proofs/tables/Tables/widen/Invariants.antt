use Rattle.std.proofs.Common.{[]}
use Rattle.catalogue.specs.Climbing.{Turns, WidenMet}
use Rattle.catalogue.proofs.tables.Tables.widen.Given as goal

abbrev pub invariant-loop-z : goal.invariant-loop-z
invariant-loop-z g l = Turns g.S.Scale.order [] (WidenMet g.S.Scale.order l.x l.r l.y) l.z l.initial.self l.self l.rose
