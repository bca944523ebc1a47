use Rattle.std.proofs.Common.{[]}
use Rattle.catalogue.specs.Climbing.{Turns, AllSpreadMet}
use Rattle.catalogue.proofs.tables.Tables.spread.Given as goal

abbrev pub invariant-loop-x : goal.invariant-loop-x
invariant-loop-x g l = Turns g.S.Scale.order [] (AllSpreadMet g.S.Scale.order) l.x l.initial.self l.self l.rose
