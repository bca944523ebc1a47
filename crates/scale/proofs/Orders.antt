-- The derived order of per-mille marks is the order of their numbers. Assumes nothing.
use Rattle.std.proofs.Common.{◌≡◌, ℕ, ◌+◌, ◌*◌, ◌<◌, Some, refl, arith, rules}
use Rattle.std.specs.Prelude.{nat_le}
use Rattle.std.specs.Ordering.{partial_le, nat_cmp, is_some_and, is_le, partial_ordering_then}
use Rattle.std.proofs.lemmas.Bool.Decides.{nat_tests}
use Rattle.scale.specs.Marks.{digit_lt}
use Rattle.scale.specs.Thousandths.{digit, thousandths}
use Rattle.scale.specs.declared.digits.Digit.{Digit}
use Rattle.scale.specs.declared.per_mille.PerMille.{PerMille}
use Rattle.scale.specs.declared.per_mille.PerMille.TheVariants.{Thousand, Digits}
use Rattle.scale.specs.contracts.digits.DigitPartialOrd.TheImpl.{partial_cmp-value as digit_cmp}
use Rattle.scale.specs.contracts.per_mille.PerMillePartialOrd.TheImpl.{partial_cmp-value as mille_cmp}

-- digits have the order of their numbers
partial_cmp-digit : (a b : Digit) → digit_cmp.it a b ≡ Some (nat_cmp (digit a) (digit b))
partial_cmp-digit = search rules

-- three digits, compared one after another, have the order of the number that they write
partial_le-digits : (h t o h' t' o' : ℕ) → t < 10 → o < 10 → t' < 10 → o' < 10 → is_some_and is_le (partial_ordering_then (Some (nat_cmp h h')) (partial_ordering_then (Some (nat_cmp t t')) (Some (nat_cmp o o')))) ≡ nat_le (100 * h + 10 * t + o) (100 * h' + 10 * t' + o')
partial_le-digits h t o h' t' o' a b c d = grind (arith, nat_tests)

pub mille_le : (a b : PerMille) → partial_le mille_cmp.it a b ≡ nat_le (thousandths a) (thousandths b)
mille_le (Digits h t o) (Digits h' t' o') = simp partial_cmp-digit (partial_le-digits (digit h) (digit t) (digit o) (digit h') (digit t') (digit o') (digit_lt t) (digit_lt o) (digit_lt t') (digit_lt o'))
mille_le (Digits h t o) Thousand = grind (arith, nat_tests, digit_lt)
mille_le Thousand (Digits h t o) = grind (arith, nat_tests, digit_lt)
mille_le Thousand Thousand = refl
