use Rattle.std.proofs.Common.{ℕ, ◌<◌, List}
use Rattle.logic.specs.Axioms.{Axiom}
use Rattle.catalogue.specs.Climbing.{Stays, Derived, Tops}
use Rattle.catalogue.proofs.tables.Tables.start.Given as goal

abbrev pub invariant-loop-x : goal.invariant-loop-x
invariant-loop-x g l =
    Stays l.initial.self l.self
    × ((axioms : List (Axiom _)) → Derived g.S.Scale.order axioms l.self)
    × ((X : ℕ) → X < l.x → Tops g.S.Scale.order l.self X)
