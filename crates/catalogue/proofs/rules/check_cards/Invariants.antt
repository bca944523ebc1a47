use Rattle.std.proofs.Common.{◌≡◌, drop}
use Rattle.catalogue.specs.Rules.{cards_verdict}
use Rattle.catalogue.proofs.rules.check_cards.Given as goal

-- the cards that are left decide
abbrev pub invariant-loop-place : goal.invariant-loop-place
invariant-loop-place g l = cards_verdict g.S.Scale.order l.size.n l.size.k l.place-counter (drop l.place-counter l.cards) ≡ cards_verdict g.S.Scale.order l.size.n l.size.k 0 l.cards
