-- Settled tables of derived marks are saturated. Assumes nothing.
use Rattle.std.proofs.Common.{◌≡◌, ℕ, ◌<◌, Bool, List, subst, arith}
use Rattle.scale.specs.Order.{Chain, Laws}
use Rattle.logic.specs.Axioms.{Axiom, In, AllInRange, any}
use Rattle.logic.specs.declared.cards.Card.{Card}
use Rattle.logic.specs.Records.{axioms}
use Rattle.logic.specs.Derivations.{pair}
use Rattle.logic.specs.Tables.{Saturated}
use Rattle.logic.proofs.Closures.{saturated_of_meets}
use Rattle.catalogue.specs.Climbing.{held, Derived, Rise, Raises, Tops, Settled}
use Rattle.catalogue.specs.declared.tables.Tables.{Tables}
use Rattle.catalogue.proofs.Rising.{terms_stay}

module _ {M : Type 0} {C : Chain M} (laws : Laws C) where
  -- a sweep by the cards of the tables: cells hold derived marks, and keep the start marks
  pub swept : {old new : Tables M} {rose : Bool} (cards : List (Card M)) → old.cards.now ≡ cards → Raises C (axioms old.cards.now) old new rose → Derived C (axioms cards) old → ((X : ℕ) → X < old.size.n → Tops C old X)
      → Rise C (axioms cards) old new rose × ((X : ℕ) → X < new.size.n → Tops C new X)
  swept cards e r derived tops =
      let rise = r.rise (axioms cards) (λ a i. subst (λ l. In a (axioms l)) e i) derived in (
        rise,
        λ X h.
            let (p, q) = tops X (let n = terms_stay r.stays in omega arith) in
            (laws.trans _ _ _ p (rise.rises (pair X X)), laws.trans _ _ _ q (rise.rises (pair X any))),
      )

  pub settled_saturated : {said : List (Axiom M)} (t : Tables M) → AllInRange t.size.n t.size.k said → Derived C said t → ((X : ℕ) → X < t.size.n → Tops C t X) → Settled C said t → Saturated C t.size.n t.size.k said (held C t)
  settled_saturated t ranges derived tops settled =
      saturated_of_meets laws t.size.limits.0 ranges (held C t)
      (record { self = λ X h. (tops X h).0; top = λ X h. (tops X h).1; asks = settled.asks; spreads = settled.spreads }) derived
