use Rattle.std.proofs.Common.{◌≡◌, List, take, refl, subst, rules}
use Rattle.scale.specs.Order.{Chain}
use Rattle.logic.specs.declared.cards.Card.{Card}
use Rattle.logic.specs.Records.{axioms}
use Rattle.logic.specs.Tables.{Saturated}
use Rattle.catalogue.specs.Cells.{cells}
use Rattle.catalogue.specs.Climbing.{Stays, held}
use Rattle.catalogue.specs.declared.tables.Tables.{Tables}
use Rattle.catalogue.proofs.states.Draft.classify.Goals as goal

-- the saturated tables, by the numbers that they had, the cards that stand and the two lists
saturated : {M : Type 0} (C : Chain M) (old new : Tables M) (standing cards : List (Card M)) (pairs links : List M) → Stays old new → standing ≡ cards → new.pairs.now ≡ pairs → new.links.now ≡ links
    → Saturated C old.size.n old.size.k (axioms standing) (held C new) → Saturated C old.size.n old.size.k (axioms cards) (cells C old.size.n pairs links)
saturated C old new standing cards pairs links stays e p l s =
    subst (λ cards. Saturated C old.size.n old.size.k (axioms cards) (cells C old.size.n pairs links)) e
    (subst (λ t. Saturated C old.size.n old.size.k (axioms standing) t) (λ i. cells C (stays.size i).n (p i) (l i)) s)

pub returns-clause-classified : goal.returns-clause-classified
returns-clause-classified g c =
    let standing : c.in_ok-cards.cards.now ≡ take c.args.self.numbers.standing c.args.cards.now = search rules in
    (search rules, refl, saturated g.S.Scale.order _ c.saturate.new.self _ _ _ _ c.saturate.ensures.stays standing (search rules) (search rules) c.saturate.ensures.saturated)
