use Rattle.std.proofs.Common.{ℕ, ◌<◌, []}
use Rattle.catalogue.specs.Climbing.{Turns, SpreadMet}
use Rattle.catalogue.proofs.tables.Tables.spread_term.Given as goal

abbrev pub invariant-loop-r : goal.invariant-loop-r
invariant-loop-r g l = Turns g.S.Scale.order [] (λ t r. (y : ℕ) → y < t.size.n → SpreadMet g.S.Scale.order l.x r t y) l.r l.initial.self l.self l.rose
