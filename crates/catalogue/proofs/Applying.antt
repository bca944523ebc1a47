-- What the rule of an axiom raises at a term, and what the record of a card says. Assumes nothing.
use Rattle.std.proofs.Common.{◌≡◌, ℕ, Bool, false, List, [], ◌∷◌, sym, refl, ap, ◌∙◌, subst}
use mathlib.Core.List.Memᴰ
use Rattle.scale.specs.Order.{Chain, AtMost, Laws}
use Rattle.logic.specs.declared.cards.Card.{Card}
use Rattle.logic.specs.declared.cards.Form.{Form}
use Rattle.logic.specs.Axioms.{Axiom, In, AllInRange}
use Rattle.logic.specs.Records.{by_form, says}
use Rattle.logic.specs.FormNumbers.{form_number}
use Rattle.logic.specs.Derivations.{Cell, Within, Derives}
use Rattle.logic.specs.Tables.{Asks}
use Rattle.catalogue.specs.Climbing.{held, Raised, Derived, Raises, Applies}
use Rattle.catalogue.specs.declared.tables.Tables.{Tables}
use Rattle.catalogue.proofs.Rising.{raises_one}

module _ {M : Type 0} {C : Chain M} (laws : Laws C) (said : Axiom M) (X : ℕ) where
  -- what holds of the one axiom of a list
  pub applies_one : {old new : Tables M} {rose : Bool} → Raises C (said ∷ []) old new rose → (rose ≡ false → Asks C new.size.n (held C new) said X) → Applies C (said ∷ []) X old new rose
  applies_one {new = new} raises asks = record {
    raises = raises;
    met = λ e b i. subst (λ a. Asks C new.size.n (held C new) a X) (sym (Memᴰ.eq_of_singleton i)) (asks e);
  }

  -- a rule that raises the cell c to F of the tables
  pub rule : (F : Tables M → M) (c : Cell) → ((t : Tables M) → AtMost C (F t) (held C t c) → Asks C t.size.n (held C t) said X)
      → {old new : Tables M} {m : M} {rose : Bool} → m ≡ F old → Within old.size.n old.size.k c
      → ((axioms : List (Axiom M)) → In said axioms → Derived C axioms old → Derives C old.size.n old.size.k axioms c (F old))
      → Raised C old c m new rose → Applies C (said ∷ []) X old new rose
  rule F c asks {old} {new} {m} {rose} is_m h follows r =
      let one = raises_one laws (said ∷ []) F c is_m h (λ axioms i. follows axioms (i said (Memᴰ.head refl))) r in
      applies_one one.0 (λ e. asks new (one.1 e))

-- a record of a form that is known says the axiom of that form
pub ranges_by_form : {M : Type 0} {n k : ℕ} (card : Card M) (form known : Form) (a b c : ℕ) → form_number form ≡ card.statement.form → form ≡ known → a ≡ card.statement.first → b ≡ card.statement.second → c ≡ card.statement.third
    → AllInRange n k (says card) → AllInRange n k (by_form (form_number known) a b c card.mark)
ranges_by_form {n = n} {k = k} card f known a b c number is ea eb ec ranges =
    let e = sym (ap form_number is) ∙ number in
    subst (AllInRange n k) (λ i. by_form (sym e i) (sym ea i) (sym eb i) (sym ec i) card.mark) ranges
