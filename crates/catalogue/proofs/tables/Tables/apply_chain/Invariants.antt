use Rattle.std.proofs.Common.{ℕ, ◌<◌, [], ◌∷◌}
use Rattle.logic.specs.Axioms.{chain}
use Rattle.catalogue.specs.Climbing.{Turns, ChainMet}
use Rattle.catalogue.proofs.tables.Tables.apply_chain.Given as goal

abbrev pub invariant-loop-y : goal.invariant-loop-y
invariant-loop-y g l = Turns g.S.Scale.order (chain l.r l.q l.s l.mark ∷ []) (λ t y. (z : ℕ) → z < t.size.n → ChainMet g.S.Scale.order l.x y l.r l.q l.s l.mark t z) l.y l.initial.self l.self l.rose
