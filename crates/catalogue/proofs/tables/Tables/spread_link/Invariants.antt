use Rattle.std.proofs.Common.{[]}
use Rattle.catalogue.specs.Climbing.{Turns, SpreadMet}
use Rattle.catalogue.proofs.tables.Tables.spread_link.Given as goal

abbrev pub invariant-loop-y : goal.invariant-loop-y
invariant-loop-y g l = Turns g.S.Scale.order [] (SpreadMet g.S.Scale.order l.x l.r) l.y l.initial.self l.self l.rose
