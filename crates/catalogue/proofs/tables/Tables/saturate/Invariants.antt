use Rattle.std.proofs.Common.{ℕ, ◌<◌}
use Rattle.logic.specs.Records.{axioms}
use Rattle.catalogue.specs.Climbing.{Stays, Derived, room, Tops}
use Rattle.catalogue.proofs.tables.Tables.saturate.Given as goal

-- the cells hold derived marks, among them the start marks
abbrev pub invariant-loop : goal.invariant-loop
invariant-loop g l = record {
  stays : Stays l.initial.self l.self;
  derived : Derived g.S.Scale.order (axioms l.initial.self.cards.now) l.self;
  tops : (X : ℕ) → X < l.self.size.n → Tops g.S.Scale.order l.self X;
}

-- what is left to rise
abbrev pub decreases-loop : goal.decreases-loop
decreases-loop g l = room g.S.Scale.order (axioms l.initial.self.cards.now) l.self
