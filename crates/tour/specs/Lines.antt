-- The lines of cards and of answers. Assumes nothing.
use Rattle.std.specs.Prelude.{ℕ, zero, suc, List, [], ◌∷◌, ◌++◌, codes}
use Rattle.scale.specs.Thousandths.{mille_bytes}
use Rattle.scale.specs.declared.per_mille.PerMille.{PerMille}
use Rattle.logic.specs.declared.cards.Card.{Card}
use Rattle.tour.specs.Names.{terms, links, name}

-- words and a last one, with a space between each two
abbrev pub line : List (List ℕ) → List ℕ → List ℕ
line [] last = last
line (word ∷ words) last = word ++ (32 ∷ line words last)

-- the words of a card's line but for its mark
abbrev pub words : (form first second third : ℕ) → List (List ℕ)
words zero a b c = []
words (suc zero) a b c = codes "is" ∷ name terms a ∷ name terms b ∷ []
words (suc (suc zero)) a b c = codes "both" ∷ name terms a ∷ name terms b ∷ name terms c ∷ []
words (suc (suc (suc zero))) a b c = codes "has" ∷ name terms a ∷ name links b ∷ name terms c ∷ []
words (suc (suc (suc (suc zero)))) a b c = codes "from" ∷ name links a ∷ name terms b ∷ name terms c ∷ []
words (suc (suc (suc (suc (suc zero))))) a b c = codes "under" ∷ name links a ∷ name links b ∷ []
words (suc (suc (suc (suc (suc (suc zero)))))) a b c = codes "chain" ∷ name links a ∷ name links b ∷ name links c ∷ []
words (suc (suc (suc (suc (suc (suc (suc f))))))) a b c = []

-- as `is wet slick 700`
abbrev pub card_line : Card PerMille → List ℕ
card_line card = line (words card.statement.form card.statement.first card.statement.second card.statement.third) (mille_bytes card.mark)

-- as `wet risky 400`
abbrev pub answer_line : (A B : ℕ) → PerMille → List ℕ
answer_line A B mark = line (name terms A ∷ name terms B ∷ []) (mille_bytes mark)
