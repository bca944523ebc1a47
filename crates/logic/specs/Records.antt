-- Card records: which record stands for an axiom, and what a record says. Assumes nothing.
use Rattle.std.specs.Prelude.{ℕ, zero, suc, List, [], ◌∷◌, ◌++◌}
use Rattle.logic.specs.Axioms.{Axiom, is, both, has, from, under, chain}
use Rattle.logic.specs.declared.cards.Card.{Card}

abbrev pub card_with : {M : Type 0} → (form first second third : ℕ) → M → Card M
card_with form first second third mark = record { statement = record { form = form; first = first; second = second; third = third }; mark = mark }

-- the record of an axiom: its form, its numbers in the order of the line, and its mark; the third number is 0 in the forms 1 and 5
abbrev pub card_of : {M : Type 0} → Axiom M → Card M
card_of (is A B m) = card_with 1 A B 0 m
card_of (both A B C m) = card_with 2 A B C m
card_of (has A r B m) = card_with 3 A r B m
card_of (from r A B m) = card_with 4 r A B m
card_of (under r s m) = card_with 5 r s 0 m
card_of (chain r q s m) = card_with 6 r q s m

abbrev pub by_form : {M : Type 0} → (form first second third : ℕ) → M → List (Axiom M)
by_form zero a b c m = []
by_form (suc zero) a b c m = is a b m ∷ []
by_form (suc (suc zero)) a b c m = both a b c m ∷ []
by_form (suc (suc (suc zero))) a b c m = has a b c m ∷ []
by_form (suc (suc (suc (suc zero)))) a b c m = from a b c m ∷ []
by_form (suc (suc (suc (suc (suc zero))))) a b c m = under a b m ∷ []
by_form (suc (suc (suc (suc (suc (suc zero)))))) a b c m = chain a b c m ∷ []
by_form (suc (suc (suc (suc (suc (suc (suc f))))))) a b c m = []

-- the axiom that a record says; none where its form is not 1 to 6
abbrev pub says : {M : Type 0} → Card M → List (Axiom M)
says card = by_form card.statement.form card.statement.first card.statement.second card.statement.third card.mark

-- what a list of records says
abbrev pub axioms : {M : Type 0} → List (Card M) → List (Axiom M)
axioms [] = []
axioms (card ∷ cards) = says card ++ axioms cards
