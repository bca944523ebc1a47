-- `stands` is what its words say. Assumes nothing.
use Rattle.std.proofs.Common.{◌≡◌, [], ◌∷◌, Decides, sym, refl, ap, ◌∙◌, inl, inr}
use mathlib.Core.List.Memᴰ
use Rattle.std.proofs.lemmas.Bool.{false≢true}
use Rattle.std.proofs.lemmas.Bool.Decides.{Decides-and, Decides-or, Decides-eqb, Decides-like}
use Rattle.logic.specs.declared.cards.Statement.{Statement}
use Rattle.logic.specs.Statements.{statement_of, same, stands, StandsInWords}

same_decides : (s t : Statement) → Decides (same s t) (t ≡ s)
same_decides s t =
    Decides-like (same s t)
    (λ h i. record { form = sym h.0 i; first = sym h.1.0 i; second = sym h.1.1.0 i; third = sym h.1.1.1 i })
    (λ e. (ap (λ u. u.form) (sym e), (ap (λ u. u.first) (sym e), (ap (λ u. u.second) (sym e), ap (λ u. u.third) (sym e)))))
    (Decides-and _ _ (Decides-eqb s.form t.form) (Decides-and _ _ (Decides-eqb s.first t.first) (Decides-and _ _ (Decides-eqb s.second t.second) (Decides-eqb s.third t.third))))

pub stands_in_words : (M : Type 0) → StandsInWords M
unfolding StandsInWords
stands_in_words M s [] = (λ e. absurd (false≢true e), λ f. absurd (Memᴰ.not-nil f.1))
stands_in_words M s (card ∷ cards) =
    Decides-like (stands s (card ∷ cards))
    (λ o. elim o [ inl e ↦ (card, Memᴰ.head refl, e) | inr f ↦ (f.0, Memᴰ.tail f.1, f.2) ])
    (λ f. elim (Memᴰ.cases_cons f.1) [ inl e ↦ inl (ap statement_of (sym e) ∙ f.2) | inr i ↦ inr (f.0, i, f.2) ])
    (Decides-or _ _ (same_decides s (statement_of card)) (stands_in_words M s cards))
