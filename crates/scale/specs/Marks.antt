-- Digits and per-mille marks as numbers. Assumes nothing.
use Rattle.std.specs.Prelude.{◌≡◌, ℕ, zero, suc, ◌/◌, ◌%◌, ◌<◌, ◌≤◌, List, [], ◌∷◌, slice_index_or, refl}
use Rattle.std.proofs.Common.{sym, ap, ◌∙◌, arith, rules, inl, inr}
use Rattle.std.proofs.lemmas.Bool.{cases_eq}
use Rattle.scale.specs.Order.{Laws}
use Rattle.scale.specs.Thousandths.{digit, thousandths, mille_order, Whole}
use Rattle.scale.specs.declared.digits.Digit.{Digit}
use Rattle.scale.specs.declared.digits.Digit.TheVariants.{Zero, One, Two, Three, Four, Five, Six, Seven, Eight, Nine}
use Rattle.scale.specs.declared.per_mille.PerMille.{PerMille}
use Rattle.scale.specs.declared.per_mille.PerMille.TheVariants.{Thousand, Digits}
use Rattle.scale.specs.Chains.{numbered_laws}

digit_list : List Digit
digit_list = Zero ∷ One ∷ Two ∷ Three ∷ Four ∷ Five ∷ Six ∷ Seven ∷ Eight ∷ Nine ∷ []

-- the digit with a number below ten
pub digit_of : ℕ → Digit
digit_of n = slice_index_or digit_list n Zero

-- a digit has a number below ten, and is the digit of that number
pub digit_facts : (d : Digit) → (digit d < 10) × (digit_of (digit d) ≡ d)
unfolding digit_of digit_list
digit_facts = search rules

pub digit_lt : (d : Digit) → digit d < 10
digit_lt d = (digit_facts d).0

pub digit_once : (a b : Digit) → digit a ≡ digit b → a ≡ b
digit_once a b e = sym (digit_facts a).1 ∙ ap digit_of e ∙ (digit_facts b).1

pub mille_within : (m : PerMille) → thousandths m ≤ 1000
mille_within Thousand = omega arith
mille_within (Digits h t o) = omega (arith, digit_lt h, digit_lt t, digit_lt o)

pub mille_once : (a b : PerMille) → thousandths a ≡ thousandths b → a ≡ b
mille_once Thousand Thousand e = refl
mille_once Thousand (Digits h t o) e = absurd (omega (arith, digit_lt h, digit_lt t, digit_lt o))
mille_once (Digits h t o) Thousand e = absurd (omega (arith, digit_lt h, digit_lt t, digit_lt o))
mille_once (Digits h t o) (Digits h' t' o') e =
    let a = digit_lt h in let b = digit_lt t in let c = digit_lt o in
    let a' = digit_lt h' in let b' = digit_lt t' in let c' = digit_lt o' in
    let eh = digit_once h h' (omega arith) in
    let et = digit_once t t' (omega arith) in
    let eo = digit_once o o' (omega arith) in cc

pub mille_laws : Laws mille_order
mille_laws = numbered_laws thousandths (Digits Zero Zero Zero) Thousand mille_once (λ m. omega arith) mille_within (omega arith)

-- each number below ten is a digit's
digit_every : (n : ℕ) → n < 10 → digit (digit_of n) ≡ n
unfolding digit_of digit_list
digit_every zero h = refl
digit_every (suc zero) h = refl
digit_every (suc (suc zero)) h = refl
digit_every (suc (suc (suc zero))) h = refl
digit_every (suc (suc (suc (suc zero)))) h = refl
digit_every (suc (suc (suc (suc (suc zero))))) h = refl
digit_every (suc (suc (suc (suc (suc (suc zero)))))) h = refl
digit_every (suc (suc (suc (suc (suc (suc (suc zero))))))) h = refl
digit_every (suc (suc (suc (suc (suc (suc (suc (suc zero)))))))) h = refl
digit_every (suc (suc (suc (suc (suc (suc (suc (suc (suc zero))))))))) h = refl
digit_every (suc (suc (suc (suc (suc (suc (suc (suc (suc (suc n)))))))))) h = absurd (omega arith)

mille_every : (n : ℕ) → n ≤ 1000 → (m : PerMille) × (thousandths m ≡ n)
mille_every n h = elim (cases_eq n 1000) [
  | inl e ↦ (Thousand, sym e)
  | inr ne ↦
      let a = digit_every (n / 100) (omega arith) in
      let b = digit_every (n / 10 % 10) (omega arith) in
      let c = digit_every (n % 10) (omega arith) in
      (Digits (digit_of (n / 100)) (digit_of (n / 10 % 10)) (digit_of (n % 10)), omega arith)
]

pub mille_whole : Whole
mille_whole = record { within = mille_within; every = mille_every; once = mille_once }
