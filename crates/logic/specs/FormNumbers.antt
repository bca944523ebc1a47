-- The numbers of the six forms. Assumes nothing.
use Rattle.std.specs.Prelude.{◌≡◌, ℕ, ◌<◌, ◌⊎◌, Result, MatchResult}
use Rattle.logic.specs.declared.cards.Form.{Form}
use Rattle.logic.specs.declared.cards.Form.TheVariants.{Is, Both, Has, From, Under, Chain}
use Rattle.logic.specs.declared.cards.UnknownForm.{UnknownForm}

abbrev pub form_number : Form → ℕ
form_number Is = 1
form_number Both = 2
form_number Has = 3
form_number From = 4
form_number Under = 5
form_number Chain = 6

-- the form that has the number, or an error with the number that is not 1 to 6
abbrev pub IsFormOf : ℕ → Result Form UnknownForm → Type 0
IsFormOf number r = MatchResult r (λ form. form_number form ≡ number) (λ e. (e.0 ≡ number) × ((number ≡ 0) ⊎ (6 < number)))
