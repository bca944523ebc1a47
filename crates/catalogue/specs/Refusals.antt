-- Refusals: their numbers and values, and how the rows of a call's tests make its verdict. Assumes nothing.
use Rattle.std.specs.Prelude.{ℕ, Bool, true, false, List, [], ◌∷◌, Ok, Err, Result}
use Rattle.catalogue.specs.declared.refusals.Place.{Place}
use Rattle.catalogue.specs.declared.refusals.Place.TheVariants.{First, Second, Third}
use Rattle.catalogue.specs.declared.refusals.Rule.{Rule}
use Rattle.catalogue.specs.declared.refusals.Rule.TheVariants.{Form, Number, Mark}
use Rattle.catalogue.specs.declared.refusals.Refusal.{Refusal}
use Rattle.catalogue.specs.declared.refusals.Refusal.TheVariants.{Limits, TableLength, UnknownForm, OutOfRange, LowestMark, AlreadyStands, TableFull, BrokenCard}

-- the number of a place
abbrev pub place_number : Place → ℕ
place_number First = 1
place_number Second = 2
place_number Third = 3

-- the refusal that a single card would get for breaking the rule
abbrev pub rule_number : Rule → ℕ
rule_number Form = 3
rule_number Number = 4
rule_number Mark = 5

-- what the tests of a call come to: nothing is refused, or a refusal with its number and the values that it carries
pub data Verdict : Type 0 where
  fine : Verdict
  refuse : (number : ℕ) (values : List ℕ) → Verdict

-- the number and the values of each refusal
abbrev pub refused : Refusal → Verdict
refused Limits = refuse 1 []
refused TableLength = refuse 2 []
refused UnknownForm = refuse 3 []
refused (OutOfRange place) = refuse 4 (place_number place ∷ [])
refused LowestMark = refuse 5 []
refused AlreadyStands = refuse 6 []
refused TableFull = refuse 7 []
refused (BrokenCard place rule) = refuse 9 (place ∷ rule_number rule ∷ [])

-- the number that a verdict has, 0 where nothing is refused
abbrev pub number_in : Verdict → ℕ
number_in fine = 0
number_in (refuse number values) = number

-- a row of the tests: the refusal, where it is so
abbrev pub row : (number : ℕ) (values : List ℕ) → Bool → Verdict
row number values true = refuse number values
row number values false = fine

-- the first refusal of two
abbrev pub ◌then◌ : Verdict → Verdict → Verdict
fine then v = v
refuse number values then v = refuse number values

infixr 4 ◌then◌
-- the verdict that an answer shows
abbrev pub verdict_of : {T : Type 0} → Result T Refusal → Verdict
verdict_of (Ok x) = fine
verdict_of (Err e) = refused e
