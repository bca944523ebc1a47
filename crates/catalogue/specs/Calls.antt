-- What each call answers, and what it leaves in the catalogue and in the tables. Assumes nothing.
use Rattle.std.specs.Prelude.{◌≡◌, ℕ, ◌+◌, ◌*◌, Bool, not, ◌&&◌, List, [], ◌∷◌, length, take, Ok, Err, Result, ◌==◌, nat_le, nat_lt, slice_set}
use Rattle.scale.specs.Order.{Chain}
use Rattle.logic.specs.declared.cards.Card.{Card}
use Rattle.logic.specs.Records.{axioms}
use Rattle.logic.specs.Statements.{statement_of}
use Rattle.logic.specs.Tables.{Saturated}
use Rattle.logic.specs.BestMarks.{best}
use Rattle.catalogue.specs.Cells.{pair_cell, cells}
use Rattle.catalogue.specs.Refusals.{Verdict, fine, refused, row, ◌then◌}
use Rattle.catalogue.specs.Rules.{card_verdict, cards_verdict, room_verdict}
use Rattle.catalogue.specs.declared.refusals.Refusal.{Refusal}
use Rattle.catalogue.specs.declared.states.Numbers.{Numbers as Stored}
use Rattle.catalogue.specs.declared.states.Draft.{Draft}
use Rattle.catalogue.specs.declared.states.Classified.{Classified}

-- the numbers that a catalogue keeps: of terms, of links, the length of its card table, and how many cards stand
pub record Numbers : Type 0 where
  pub n : ℕ
  pub k : ℕ
  pub c : ℕ
  pub f : ℕ

abbrev pub numbers : (n k c f : ℕ) → Numbers
numbers n k c f = record { n = n; k = k; c = c; f = f }

abbrev pub of_numbers : Stored → Numbers
of_numbers w = numbers w.size.n w.size.k w.capacity w.standing

abbrev pub of_draft : Draft → Numbers
of_draft d = of_numbers d.numbers

abbrev pub of_classified : Classified → Numbers
of_classified c = of_numbers c.numbers

-- n is 2 to 256, k at most 32, c at most 4,096
abbrev pub within_limits : (n k c : ℕ) → Bool
within_limits n k c = nat_le 2 n && (nat_le n 256 && (nat_le k 32 && nat_le c 4096))

-- the tables' lengths are as n, k and c say
abbrev pub lengths_fit : (n k c : ℕ) → (cards pairs links : ℕ) → Bool
lengths_fit n k c cards pairs links = cards == c && (pairs == n * n && links == k * n * n)

-- the tests of each call, in the order of the refusals' numbers; of a table they take the length, and of the card table the standing cards
abbrev pub build_verdict : (n k c : ℕ) → (cards pairs links : ℕ) → Verdict
build_verdict n k c cards pairs links = row 1 [] (not (within_limits n k c)) then row 2 [] (not (lengths_fit n k c cards pairs links))

abbrev pub file_verdict : {M : Type 0} → Chain M → Numbers → (cards : ℕ) → (standing : List (Card M)) → Card M → Verdict
file_verdict C w cards standing card =
    row 2 [] (not (cards == w.c))
    then card_verdict C w.n w.k card
    then room_verdict w.f w.c standing (statement_of card)

abbrev pub classify_verdict : {M : Type 0} → Chain M → Numbers → (cards pairs links : ℕ) → (standing : List (Card M)) → Verdict
classify_verdict C w cards pairs links standing =
    row 2 [] (not (lengths_fit w.n w.k w.c cards pairs links)) then cards_verdict C w.n w.k 0 standing

abbrev pub ask_verdict : Numbers → (pairs : ℕ) → (A B : ℕ) → Verdict
ask_verdict w pairs A B = row 2 [] (not (pairs == w.n * w.n)) then row 4 (1 ∷ []) (not (nat_lt A w.n)) then row 4 (2 ∷ []) (not (nat_lt B w.n))

-- build makes a draft in which no card stands
abbrev pub Built : (n k c : ℕ) → (cards pairs links : ℕ) → Result Draft Refusal → Type 0
Built n k c cards pairs links (Ok draft) = (build_verdict n k c cards pairs links ≡ fine) × (of_draft draft ≡ numbers n k c 0)
Built n k c cards pairs links (Err e) = build_verdict n k c cards pairs links ≡ refused e

-- file writes the card at the place after the standing ones, which are then one more; a refusal leaves draft and table
abbrev pub Filed : {M : Type 0} → Chain M → (before : Numbers) → (cards : List (Card M)) → Card M → Result (Unit {0}) Refusal → (after : Numbers) → (cards' : List (Card M)) → Type 0
Filed C w cards card (Ok _) after cards' =
    (file_verdict C w (length cards) (take w.f cards) card ≡ fine)
    × (after ≡ numbers w.n w.k w.c (w.f + 1))
    × (cards' ≡ slice_set cards w.f card)
Filed C w cards card (Err e) after cards' =
    (file_verdict C w (length cards) (take w.f cards) card ≡ refused e)
    × (after ≡ w)
    × (cards' ≡ cards)

-- classify fills both tables with the closure of what the standing cards say, and turns the draft into a classified catalogue of the same numbers; a refusal hands the draft back and leaves the tables
abbrev pub Classifies : {M : Type 0} → Chain M → (before : Numbers) → (cards : List (Card M)) → (pairs links : List M) → Result Classified (Draft × Refusal) → (pairs' links' : List M) → Type 0
Classifies C w cards pairs links (Ok classified) pairs' links' =
    (classify_verdict C w (length cards) (length pairs) (length links) (take w.f cards) ≡ fine)
    × (of_classified classified ≡ w)
    × Saturated C w.n w.k (axioms (take w.f cards)) (cells C w.n pairs' links')
Classifies C w cards pairs links (Err back) pairs' links' =
    (classify_verdict C w (length cards) (length pairs) (length links) (take w.f cards) ≡ refused back.1)
    × (of_draft back.0 ≡ w)
    × (pairs' ≡ pairs)
    × (links' ≡ links)

-- ask answers the best mark by the pair table
abbrev pub Asked : {M : Type 0} → Chain M → Numbers → (pairs : List M) → (A B : ℕ) → Result M Refusal → Type 0
Asked C w pairs A B (Ok m) = (ask_verdict w (length pairs) A B ≡ fine) × (m ≡ best C (pair_cell C w.n pairs) A B)
Asked C w pairs A B (Err e) = ask_verdict w (length pairs) A B ≡ refused e
