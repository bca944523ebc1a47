-- The records of axioms, the records of a list, and the axioms that they say. Assumes nothing.
use Rattle.std.proofs.Common.{◌≡◌, ℕ, zero, suc, ◌<◌, List, [], ◌∷◌, length, get_or, sym, refl, ap, ◌∙◌, subst, inl, inr, le_of_suc-le-suc, not-suc-le-zero, arith}
use mathlib.Core.List.{Memᴰ}
use mathlib.Core.List.Memᴰ
use Rattle.logic.specs.declared.cards.Card.{Card}
use Rattle.logic.specs.Axioms.{Axiom, is, both, has, from, under, chain, In}
use Rattle.logic.specs.Records.{card_of, says, axioms}

-- the record of an axiom says it, and it alone
pub said : {M : Type 0} (a : Axiom M) → says (card_of a) ≡ a ∷ []
said (is A B m) = refl
said (both A B D m) = refl
said (has A r B m) = refl
said (from r A B m) = refl
said (under r s m) = refl
said (chain r q s m) = refl

-- so axioms of one record are the same
pub same_axiom : {M : Type 0} (a b : Axiom M) → card_of a ≡ card_of b → a ≡ b
same_axiom a b e = Memᴰ.eq_of_singleton (subst (In a) (sym (said a) ∙ ap says e ∙ said b) (Memᴰ.head refl))

-- an axiom whose record is among a list is among what the list says
pub recorded_said : {M : Type 0} (cards : List (Card M)) (a : Axiom M) → Memᴰ (card_of a) cards → In a (axioms cards)
recorded_said [] a i = absurd (Memᴰ.not-nil i)
recorded_said (card ∷ cards) a i =
    elim (Memᴰ.cases_cons i) [
      | inl same ↦ Memᴰ.append_left (axioms cards) (subst (In a) (sym (said a) ∙ ap says same) (Memᴰ.head refl))
      | inr later ↦ Memᴰ.append_right (says card) (recorded_said cards a later)
    ]

-- what the record at a place says is among what the list says
pub said_at : {M : Type 0} (cards : List (Card M)) (i : ℕ) (card : Card M) → i < length cards → card ≡ get_or cards i card → (a : Axiom M) → In a (says card) → In a (axioms cards)
said_at [] i card h e a s = absurd (not-suc-le-zero h)
said_at (c ∷ cards) zero card h e a s = Memᴰ.append_left (axioms cards) (subst (λ d. In a (says d)) e s)
said_at (c ∷ cards) (suc i) card h e a s = Memᴰ.append_right (says c) (said_at cards i card (le_of_suc-le-suc h) e a s)

-- what holds of all that the records say, one by one, holds of all that the list says
pub all_said : {M : Type 0} (P : Axiom M → Type 0) (cards : List (Card M)) → ((i : ℕ) (card : Card M) → i < length cards → card ≡ get_or cards i card → (a : Axiom M) → In a (says card) → P a) → (a : Axiom M) → In a (axioms cards) → P a
all_said P [] h a s = absurd (Memᴰ.not-nil s)
all_said {M} P (c ∷ cards) h a s =
    elim (Memᴰ.append_cases (says c) s) [
      | inl here ↦ h 0 c (omega arith) refl a here
      | inr there ↦ all_said P cards (λ i card lt e. h (suc i) card (omega arith) e) a there
    ]
