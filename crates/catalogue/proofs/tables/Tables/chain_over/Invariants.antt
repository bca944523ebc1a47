use Rattle.std.proofs.Common.{[], ◌∷◌}
use Rattle.logic.specs.Axioms.{chain}
use Rattle.catalogue.specs.Climbing.{Turns, ChainMet}
use Rattle.catalogue.proofs.tables.Tables.chain_over.Given as goal

abbrev pub invariant-loop-z : goal.invariant-loop-z
invariant-loop-z g l = Turns g.S.Scale.order (chain l.r l.q l.s l.mark ∷ []) (ChainMet g.S.Scale.order l.x l.y l.r l.q l.s l.mark) l.z l.initial.self l.self l.rose
