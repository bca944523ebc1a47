use Rattle.logic.specs.Axioms.{Axiom, In}
use Rattle.logic.specs.Records.{says}
use Rattle.logic.specs.Tables.{Asks}
use Rattle.catalogue.specs.Climbing.{Turns, held}
use Rattle.catalogue.proofs.tables.Tables.apply.Given as goal

abbrev pub invariant-loop-x : goal.invariant-loop-x
invariant-loop-x g l = Turns g.S.Scale.order (says l.card) (λ t x. (a : Axiom _) → In a (says l.card) → Asks g.S.Scale.order t.size.n (held g.S.Scale.order t) a x) l.x l.initial.self l.self l.rose
