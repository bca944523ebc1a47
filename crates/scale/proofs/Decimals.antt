-- Reading a number in decimal. Assumes nothing.
use Rattle.std.proofs.Common.{◌≡◌, ℕ, ◌^◌, ◌<◌, List, length, get_or, Some, None, Ok, Err, IsUtf8, decimal, Option, Result, sym, ap, ◌∙◌, subst, inl, inr, arith, length-drop, MatchOption}
use Rattle.std.specs.Result.{result_ok}
use Rattle.std.specs.Str.Parse.{AllDigits, digits_value, ParsesUnsigned}
use Rattle.scale.specs.Forms.{Reads}
use Rattle.scale.specs.Thousandths.{thousandths, mille_bytes}
use Rattle.scale.specs.declared.per_mille.PerMille.{PerMille}
use Rattle.scale.specs.Marks.{mille_within}
use Rattle.std.proofs.lemmas.Fmt.{decimal_injective, decimal_digit, first_decimal, IsAscii-decimal, parse-decimal as parses_back, decimal-digits_value}
use Rattle.std.proofs.lemmas.Str.Parse.{without_leading_plus_none, without_leading_plus_plus, numerals_by_value, tells_digits}
use Rattle.std.proofs.lemmas.Bool.{cases_eq, cases_lt}
use Rattle.std.proofs.lemmas.Str.{IsUtf8-from_ascii}

-- a number of more than one digit begins with a digit above 0
pub decimal_first : (bs : List ℕ) (n : ℕ) → n < 2 ^ 16 → bs ≡ decimal n → 1 < length bs → 48 < get_or bs 0 0
decimal_first bs n fits e more = elim (cases_lt n 1) [
  | inl h ↦
      let z : n ≡ 0 = omega arith in
      let l : length bs ≡ 1 = ap length (e ∙ ap decimal z ∙ decimal_digit 0 (omega arith)) in absurd (omega arith)
  | inr h ↦ let f = first_decimal n h (omega arith) in omega (arith, ap (λ l. get_or l 0 0) e)
]

pub decimal_utf8 : (bs : List ℕ) (n : ℕ) → n < 2 ^ 16 → bs ≡ decimal n → IsUtf8 bs
decimal_utf8 bs n fits e = subst IsUtf8 (sym e) (IsUtf8-from_ascii (decimal n) (IsAscii-decimal n (omega arith)))

-- what `parse` reads of a text that has no leading zero and no leading plus, unless it is that byte alone
pub parse_decimal : {E : Type 0} (bs : List ℕ) (r : Result ℕ E) → (1 < length bs → 48 < get_or bs 0 0) → ParsesUnsigned 16 10 bs r → MatchOption (result_ok r) ((n : ℕ) → n < 2 ^ 16 → bs ≡ decimal n → ⊥) (λ n. bs ≡ decimal n)
parse_decimal bs (Ok x) lead h = elim (cases_eq (get_or bs 0 0) 43) [
  | inl plus ↦
      let l = ap length (without_leading_plus_plus bs plus) ∙ length-drop 1 bs in
      let some = h.0.0.0 in
      let more : 1 < length bs = omega arith in absurd (omega (arith, lead more))
  | inr no_plus ↦
      let same = without_leading_plus_none bs no_plus in
      let digits = subst (AllDigits 10) same h.0.0.1 in
      let some : 0 < length bs = subst (λ ds. 0 < length ds) same h.0.0.0 in
      let number : digits_value 10 bs ≡ x = ap (digits_value 10) (sym same) ∙ sym h.1 in
      let fits : digits_value 10 bs < 2 ^ 64 = subst (λ ds. digits_value 10 ds < 2 ^ 64) same (omega (arith, h.0.1)) in
      sym (decimal-digits_value (numerals_by_value (AllDigits 10) tells_digits) bs digits some (λ z. elim (cases_lt 1 (length bs)) [ inl more ↦ absurd (omega (arith, lead more)) | inr one ↦ omega arith ]) fits) ∙ ap decimal number
]
parse_decimal bs (Err y) lead h = λ n fits e.
    let back = parses_back 16 n bs (Err y) fits (omega arith) e h in
    let z : ◌≡◌ {A = ℕ} 0 1 = cc in omega arith

-- a word that writes a number is read as the mark of that number
pub reads_mille : (word : List ℕ) (n : ℕ) (r : Option PerMille) → word ≡ decimal n → n < 2 ^ 64 → MatchOption r (1000 < n) (λ m. thousandths m ≡ n) → Reads mille_bytes word r
reads_mille word n (Some m) e fits h = e ∙ ap decimal (sym h)
reads_mille word n None e fits h = λ m f.
    let same = decimal_injective n (thousandths m) fits (omega (arith, mille_within m)) (sym e ∙ f) in omega (arith, mille_within m)
