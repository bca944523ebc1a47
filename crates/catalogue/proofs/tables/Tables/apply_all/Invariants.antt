use Rattle.std.proofs.Common.{◌≡◌, ℕ, ◌<◌, get_or}
use Rattle.logic.specs.declared.cards.Card.{Card}
use Rattle.logic.specs.Axioms.{Axiom, In}
use Rattle.logic.specs.Records.{says, axioms}
use Rattle.logic.specs.Tables.{Asks}
use Rattle.catalogue.specs.Climbing.{Turns, held}
use Rattle.catalogue.proofs.tables.Tables.apply_all.Given as goal

abbrev pub invariant-loop-card : goal.invariant-loop-card
invariant-loop-card g l =
    Turns g.S.Scale.order (axioms l.cards)
    (λ t i. (card : Card _) → card ≡ get_or l.cards i card → (a : Axiom _) → In a (says card) → (x : ℕ) → x < t.size.n → Asks g.S.Scale.order t.size.n (held g.S.Scale.order t) a x)
    l.card-index l.initial.self l.self l.rose
