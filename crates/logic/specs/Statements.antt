-- Statements: what cards say but for their marks. Assumes nothing.
use Rattle.std.specs.Prelude.{◌≡◌, Bool, false, ◌&&◌, ◌||◌, List, [], ◌∷◌, Decides, ◌==◌}
use mathlib.Core.List.{Memᴰ}
use Rattle.logic.specs.declared.cards.Card.{Card}
use Rattle.logic.specs.declared.cards.Statement.{Statement}

abbrev pub statement_of : {M : Type 0} → Card M → Statement
statement_of card = card.statement

-- form and numbers are equal place by place
abbrev pub same : Statement → Statement → Bool
same s t = s.form == t.form && (s.first == t.first && (s.second == t.second && s.third == t.third))

-- whether some card of a list has the statement
abbrev pub stands : {M : Type 0} → Statement → List (Card M) → Bool
stands s [] = false
stands s (card ∷ cards) = same s (statement_of card) || stands s cards

-- the same in words
unfoldable pub StandsInWords : Type 0 → Type 0
StandsInWords M = (s : Statement) (cards : List (Card M)) → Decides (stands s cards) ((card : Card M) × Memᴰ card cards × (statement_of card ≡ s))
