-- The rules that a card has to keep: its form, its numbers, its mark. Assumes nothing.
use Rattle.std.specs.Prelude.{◌≡◌, ℕ, zero, suc, ◌+◌, ◌<◌, ◌≤◌, ◌≢◌, Bool, false, not, ◌⊎◌, ◌↔◌, List, [], ◌∷◌, ◌++◌, length, Some, None, Ok, Err, Option, Result, ◌==◌, nat_lt}
use mathlib.Core.List.{Memᴰ}
use Rattle.scale.specs.Order.{Chain, AtMost}
use Rattle.logic.specs.declared.cards.Card.{Card}
use Rattle.logic.specs.declared.cards.Statement.{Statement}
use Rattle.logic.specs.Axioms.{Axiom, In, InRange, mark_of}
use Rattle.logic.specs.Records.{card_of, axioms}
use Rattle.logic.specs.Statements.{statement_of, stands}
use Rattle.catalogue.specs.declared.rules.Kind.{Kind}
use Rattle.catalogue.specs.declared.rules.Kind.TheVariants.{Term, Link, Unused}
use Rattle.catalogue.specs.declared.rules.Fault.{Fault}
use Rattle.catalogue.specs.declared.rules.Fault.TheVariants as fault
use Rattle.catalogue.specs.declared.refusals.Place.{Place}
use Rattle.catalogue.specs.declared.refusals.Place.TheVariants.{First, Second, Third}
use Rattle.catalogue.specs.declared.refusals.Rule.{Rule}
use Rattle.catalogue.specs.declared.refusals.Rule.TheVariants as rule
use Rattle.catalogue.specs.declared.refusals.Refusal.{Refusal}
use Rattle.catalogue.specs.declared.refusals.Refusal.TheVariants.{UnknownForm, OutOfRange, LowestMark}
use Rattle.catalogue.specs.Refusals.{Verdict, fine, refuse, refused, row, ◌then◌, place_number}

abbrev pub rule_of : Fault → Rule
rule_of fault.Form = rule.Form
rule_of (fault.Number place) = rule.Number
rule_of fault.Mark = rule.Mark

abbrev pub refusal_of : Fault → Refusal
refusal_of fault.Form = UnknownForm
refusal_of (fault.Number place) = OutOfRange place
refusal_of fault.Mark = LowestMark

-- the verdict that a test of one card shows
abbrev pub fault_verdict : Result (Unit {0}) Fault → Verdict
fault_verdict (Ok _) = fine
fault_verdict (Err f) = refused (refusal_of f)

-- what the three numbers of a form are
abbrev pub kinds : (form : ℕ) → Option (Kind × Kind × Kind)
kinds zero = None
kinds (suc zero) = Some (Term, Term, Unused)
kinds (suc (suc zero)) = Some (Term, Term, Term)
kinds (suc (suc (suc zero))) = Some (Term, Link, Term)
kinds (suc (suc (suc (suc zero)))) = Some (Link, Term, Term)
kinds (suc (suc (suc (suc (suc zero))))) = Some (Link, Link, Unused)
kinds (suc (suc (suc (suc (suc (suc zero)))))) = Some (Link, Link, Link)
kinds (suc (suc (suc (suc (suc (suc (suc form))))))) = None

-- a term is below n, a link below k, and an unused number is 0
abbrev pub admits : (n k : ℕ) → Kind → ℕ → Bool
admits n k Term number = nat_lt number n
admits n k Link number = nat_lt number k
admits n k Unused number = number == 0

abbrev pub numbers_verdict : (n k : ℕ) → Option (Kind × Kind × Kind) → Statement → Verdict
numbers_verdict n k None s = refuse 3 []
numbers_verdict n k (Some kinds) s =
    row 4 (1 ∷ []) (not (admits n k kinds.0 s.first))
    then row 4 (2 ∷ []) (not (admits n k kinds.1 s.second))
    then row 4 (3 ∷ []) (not (admits n k kinds.2 s.third))

-- 3 where the form is not 1 to 6, 4 with the first place whose number is out of range for its kind
abbrev pub statement_verdict : (n k : ℕ) → Statement → Verdict
statement_verdict n k s = numbers_verdict n k (kinds s.form) s

-- and 5 where the mark is the lowest
abbrev pub card_verdict : {M : Type 0} → Chain M → (n k : ℕ) → Card M → Verdict
card_verdict C n k card = statement_verdict n k (statement_of card) then row 5 [] (C.leq card.mark C.low)

-- the same in words: a card keeps the rules exactly when it is the record of an axiom that is in range and whose mark is above the lowest
unfoldable pub KeptInWords : {M : Type 0} → Chain M → Type 0
KeptInWords {M} C =
    (n k : ℕ) (card : Card M)
    → (card_verdict C n k card ≡ fine → (a : Axiom M) × (card ≡ card_of a) × InRange n k a × (C.leq (mark_of a) C.low ≡ false))
    × ((a : Axiom M) → card ≡ card_of a → InRange n k a → C.leq (mark_of a) C.low ≡ false → card_verdict C n k card ≡ fine)

-- the number that a statement has at a place, and the kind of number that a form has there
abbrev pub number_at : Place → Statement → ℕ
number_at First s = s.first
number_at Second s = s.second
number_at Third s = s.third

abbrev pub kind_at : Place → Kind × Kind × Kind → Kind
kind_at First kinds = kinds.0
kind_at Second kinds = kinds.1
kind_at Third kinds = kinds.2

-- out of range is a term that is not below n, a link that is not below k, and an unused number that is not 0
abbrev pub IsOut : (n k : ℕ) → Kind → ℕ → Type 0
IsOut n k Term number = n ≤ number
IsOut n k Link number = k ≤ number
IsOut n k Unused number = number ≢ 0

-- the first place of a statement whose number is out of range for its kind
pub record FirstOut (n k : ℕ) (s : Statement) (place : Place) : Type 0 where
  pub expected : Kind × Kind × Kind
  pub known : kinds s.form ≡ Some expected
  pub out : IsOut n k (kind_at place expected) (number_at place s)
  pub before : (earlier : Place) → place_number earlier < place_number place → IsOut n k (kind_at earlier expected) (number_at earlier s) → ⊥

-- which rule a card breaks, in words: 3 comes exactly where its form is not 1 to 6, 4 with a place exactly where that is the first whose number is out of range, and 5 exactly where it is the record of an axiom that is in range, but whose mark is at most the lowest
pub record WhichRule {M : Type 0} (C : Chain M) (n k : ℕ) (card : Card M) : Type 0 where
  pub unknown : (card_verdict C n k card ≡ refuse 3 []) ↔ ((card.statement.form ≡ 0) ⊎ (6 < card.statement.form))
  pub out_of_range : (place : Place) → (card_verdict C n k card ≡ refuse 4 (place_number place ∷ [])) ↔ FirstOut n k card.statement place
  pub lowest : (card_verdict C n k card ≡ refuse 5 []) ↔ ((a : Axiom M) × (card ≡ card_of a) × InRange n k a × AtMost C (mark_of a) C.low)

unfoldable pub RuleInWords : {M : Type 0} → Chain M → Type 0
RuleInWords {M} C = (n k : ℕ) (card : Card M) → WhichRule C n k card

abbrev pub at_place : (place : ℕ) → Verdict → Verdict
at_place place fine = fine
at_place place (refuse number values) = refuse 9 (place ∷ number ∷ [])

-- 9 with the place of the first card of a list that breaks a rule, and the rule; places count from a number on
abbrev pub cards_verdict : {M : Type 0} → Chain M → (n k : ℕ) → (place : ℕ) → List (Card M) → Verdict
cards_verdict C n k place [] = fine
cards_verdict C n k place (card ∷ cards) = at_place place (card_verdict C n k card) then cards_verdict C n k (suc place) cards

-- the first card of a list that breaks a rule, where places count from a number on: its place, and the number of the refusal that it alone would get; the cards before it keep the rules
pub record FirstBroken {M : Type 0} (C : Chain M) (n k start : ℕ) (cards : List (Card M)) (place number : ℕ) : Type 0 where
  pub before : List (Card M)
  pub card : Card M
  pub after : List (Card M)
  pub parts : cards ≡ before ++ (card ∷ after)
  pub stands_at : start + length before ≡ place
  pub keep : (other : Card M) → Memᴰ other before → card_verdict C n k other ≡ fine
  pub values : List ℕ
  pub broken : card_verdict C n k card ≡ refuse number values

-- the verdict on a list of cards in words: fine exactly where each card keeps the rules, and 9 with a place and a number exactly where the first card that breaks a rule stands there and would be refused so
pub record WhichCard {M : Type 0} (C : Chain M) (n k start : ℕ) (cards : List (Card M)) : Type 0 where
  pub all_keep : (cards_verdict C n k start cards ≡ fine) ↔ ((card : Card M) → Memᴰ card cards → card_verdict C n k card ≡ fine)
  pub one_broken : (place number : ℕ) → (cards_verdict C n k start cards ≡ refuse 9 (place ∷ number ∷ [])) ↔ FirstBroken C n k start cards place number

unfoldable pub BrokenInWords : {M : Type 0} → Chain M → Type 0
BrokenInWords {M} C = (n k start : ℕ) (cards : List (Card M)) → WhichCard C n k start cards

-- what cards say, in words: of cards that keep the rules, an axiom is among what they say exactly where its record is among them
unfoldable pub SaidInWords : {M : Type 0} → Chain M → Type 0
SaidInWords {M} C =
    (n k : ℕ) (cards : List (Card M)) → cards_verdict C n k 0 cards ≡ fine → (a : Axiom M) → In a (axioms cards) ↔ Memᴰ (card_of a) cards

-- 6 where the statement stands already, 7 where as many cards stand, f, as the table has places, c
abbrev pub room_verdict : {M : Type 0} → (f c : ℕ) → (standing : List (Card M)) → Statement → Verdict
room_verdict f c standing statement = row 6 [] (stands statement standing) then row 7 [] (f == c)
