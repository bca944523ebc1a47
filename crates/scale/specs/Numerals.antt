-- Per-mille marks in decimal. Assumes nothing.
use Rattle.std.specs.Prelude.{◌≡◌, ℕ, ◌+◌, ◌%◌, ◌^◌, ◌<◌, ◌≤◌, true, [], ◌∷◌, length, decimal}
use Rattle.std.proofs.Common.{refl, ap, arith}
use Rattle.std.specs.List.{AllByRecursion}
use Rattle.std.proofs.lemmas.Fmt.{decimal_digit, decimal_step, decimal_by_steps, decimal_nonempty, length-decimal-le, decimal_injective}
use Rattle.std.proofs.ByRecursion.{All-push}
use Rattle.std.proofs.lemmas.Bool.Decides.{nat_tests}
use Rattle.scale.specs.Thousandths.{thousandths, mille_bytes}
use Rattle.scale.specs.Words.{plain}
use Rattle.scale.specs.Forms.{Forms}
use Rattle.scale.specs.declared.per_mille.PerMille.{PerMille}
use Rattle.scale.specs.declared.per_mille.PerMille.TheVariants.{Thousand}
use Rattle.scale.specs.Marks.{mille_within, mille_once}

pub decimal_thousand : decimal 1000 ≡ 49 ∷ 48 ∷ 48 ∷ 48 ∷ []
decimal_thousand = rw (decimal_step 1000 (omega arith) (omega arith), decimal_step 100 (omega arith) (omega arith), decimal_step 10 (omega arith) (omega arith), decimal_digit 1 (omega arith)) refl

-- every byte of a number is a digit's, so its form is a word
digit_plain : (b : ℕ) → b < 10 → plain (48 + b) ≡ true
digit_plain b h = grind (arith, nat_tests)

decimal_plain : (n : ℕ) → n < 2 ^ 64 → AllByRecursion (λ b. plain b ≡ true) (decimal n)
decimal_plain = decimal_by_steps (λ _ ds. AllByRecursion (λ b. plain b ≡ true) ds)
    (λ n h. (digit_plain n h, tt))
    (λ n ds _ a. All-push (λ b. plain b ≡ true) ds (48 + n % 10) a (digit_plain (n % 10) (omega arith)))

mille_short : (m : PerMille) → length (mille_bytes m) ≤ 4
mille_short m = length-decimal-le 4 (thousandths m) (omega arith) (omega (arith, mille_within m)) (omega (arith, mille_within m))

-- the laws of per-mille forms
pub mille_forms : Forms mille_bytes 4
mille_forms = record {
  word = λ m. record {
    some = decimal_nonempty (thousandths m) (omega (arith, mille_within m));
    short = omega (arith, mille_short m);
    plainly = decimal_plain (thousandths m) (omega (arith, mille_within m));
  };
  distinct = λ a b e. mille_once a b (decimal_injective (thousandths a) (thousandths b) (omega (arith, mille_within a)) (omega (arith, mille_within b)) e);
  within = mille_short;
  widest = (Thousand, ap length decimal_thousand);
}
