-- Written forms, spelled out: theorems on the bytes of per-mille and of ranked marks. No contract cites them. Assumes
-- nothing.
use Rattle.std.specs.Prelude.{◌≡◌, ℕ, suc, ◌+◌, ◌/◌, ◌%◌, ◌<◌, ◌≤◌, List, [], ◌∷◌, ◌++◌, length, take, drop, ◌≢◌, slice_index, refl, decimal}
use Rattle.std.proofs.Common.{sym, ap, subst, ◌∙◌, arith, add-one, length-take-le}
use Rattle.std.proofs.lemmas.Fmt.{decimal_digit, decimal_step}
use Rattle.std.proofs.Math.Seq.{split_at}
use Rattle.scale.specs.Words.{slash, NoSlash}
use Rattle.scale.specs.Grades.{grade_bytes}
use Rattle.scale.specs.Thousandths.{digit, thousandths, mille_bytes}
use Rattle.scale.specs.Ranks.{ranked_bytes}
use Rattle.scale.specs.Marks.{digit_lt}
use Rattle.scale.specs.Grading.{grade_no_slash}
use Rattle.scale.specs.Slashes.{cut_once}
use Rattle.scale.specs.declared.digits.Digit.{Digit}
use Rattle.scale.specs.declared.grades.Grade.{Grade}
use Rattle.scale.specs.declared.per_mille.PerMille.{PerMille}
use Rattle.scale.specs.declared.per_mille.PerMille.TheVariants.{Digits}
use Rattle.scale.specs.declared.pairs.Pair.{Pair}

pub decimal_two : (n : ℕ) → 10 ≤ n → n < 100 → decimal n ≡ (48 + n / 10) ∷ (48 + n % 10) ∷ []
decimal_two n lo hi = decimal_step n lo (omega arith) ∙ ap (λ f. f ++ ((48 + n % 10) ∷ [])) (decimal_digit (n / 10) (omega arith))

pub decimal_three : (n : ℕ) → 100 ≤ n → n < 1000 → decimal n ≡ (48 + n / 10 / 10) ∷ (48 + n / 10 % 10) ∷ (48 + n % 10) ∷ []
decimal_three n lo hi = decimal_step n (omega arith) (omega arith) ∙ ap (λ f. f ++ ((48 + n % 10) ∷ [])) (decimal_two (n / 10) (omega arith) (omega arith))

-- the ASCII byte of a digit
abbrev pub figure : Digit → ℕ
figure d = 48 + digit d

-- a mark below a thousand, by how many digits it has
module _ (h t o : Digit) where
  pub mille_one : thousandths (Digits h t o) < 10 → mille_bytes (Digits h t o) ≡ figure o ∷ []
  mille_one lt = decimal_digit (thousandths (Digits h t o)) lt ∙ ap (λ b. (48 + b) ∷ []) (omega (arith, digit_lt h, digit_lt t, digit_lt o))

  pub mille_two : 10 ≤ thousandths (Digits h t o) → thousandths (Digits h t o) < 100 → mille_bytes (Digits h t o) ≡ figure t ∷ figure o ∷ []
  mille_two lo hi =
      let a = digit_lt h in let b = digit_lt t in let c = digit_lt o in
      let et : thousandths (Digits h t o) / 10 ≡ digit t = omega arith in
      let eo : thousandths (Digits h t o) % 10 ≡ digit o = omega arith in
      decimal_two (thousandths (Digits h t o)) lo hi ∙ λ i. (48 + et i) ∷ (48 + eo i) ∷ []

  pub mille_three : 100 ≤ thousandths (Digits h t o) → mille_bytes (Digits h t o) ≡ figure h ∷ figure t ∷ figure o ∷ []
  mille_three lo =
      let a = digit_lt h in let b = digit_lt t in let c = digit_lt o in
      let eh : thousandths (Digits h t o) / 10 / 10 ≡ digit h = omega arith in
      let et : thousandths (Digits h t o) / 10 % 10 ≡ digit t = omega arith in
      let eo : thousandths (Digits h t o) % 10 ≡ digit o = omega arith in
      decimal_three (thousandths (Digits h t o)) lo (omega arith) ∙ λ i. (48 + eh i) ∷ (48 + et i) ∷ (48 + eo i) ∷ []

-- where bytes are the first `len` of an array that is as long, they are `len` many
pub form_of : (bytes array : List ℕ) (len : ℕ) → bytes ≡ take len array → len ≤ length array → (take len array ≡ bytes) × (len ≡ length bytes)
form_of bytes array len e fits = (sym e, sym (ap length e ∙ length-take-le len array fits))

-- two forms with a slash between have a slash
has_slash : (u v : List ℕ) → NoSlash (u ++ (slash ∷ v)) → ⊥
has_slash [] v p = p.0 refl
has_slash (b ∷ u) v p = has_slash u v p.1

-- a word that has a slash at a place
pub cut_at : (word : List ℕ) (i : ℕ) → i < length word → slice_index word i ≡ slash → word ≡ take i word ++ (slash ∷ drop (i + 1) word)
cut_at word i h e = split_at word i 0 h ∙ ap (λ b. take i word ++ (b ∷ drop (suc i) word)) e ∙ ap (λ k. take i word ++ (slash ∷ drop k word)) (sym (add-one i))

-- a word with no slash is no ranked mark, and one that is has its two forms around its first slash
pub ranked_slash : (word : List ℕ) → NoSlash word → (m : Pair Grade PerMille) → word ≢ ranked_bytes m
ranked_slash word p m e = has_slash (grade_bytes m.first) (mille_bytes m.second) (subst NoSlash e p)

pub ranked_cut : (word : List ℕ) (i : ℕ) → NoSlash (take i word) → i < length word → slice_index word i ≡ slash → (m : Pair Grade PerMille) → word ≡ ranked_bytes m → (take i word ≡ grade_bytes m.first) × (drop (i + 1) word ≡ mille_bytes m.second)
ranked_cut word i p h at m e = cut_once (take i word) (grade_bytes m.first) (drop (i + 1) word) (mille_bytes m.second) p (grade_no_slash m.first) (sym (cut_at word i h at) ∙ e)
