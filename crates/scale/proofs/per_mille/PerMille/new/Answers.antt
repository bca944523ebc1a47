use Rattle.std.proofs.Common.{◌≡◌, ℕ, Option, Some, Ok, Err, Result, arith}
use Rattle.std.specs.Result.{result_ok}
use Rattle.scale.specs.Thousandths.{digit, IsDigitOf}
use Rattle.scale.specs.declared.digits.Digit.{Digit}
use Rattle.scale.specs.declared.digits.NotADigit.{NotADigit}
use Rattle.scale.proofs.per_mille.PerMille.new.Goals as goal

-- the digit that was taken out of a result
taken : (number : ℕ) (r : Result Digit NotADigit) (o : Option Digit) (d : Digit) → IsDigitOf number r → o ≡ result_ok r → o ≡ Some d → digit d ≡ number
taken number (Ok x) o d is ok some = grind arith
taken number (Err e) o d is ok some = grind arith

pub returns-clause-mark : goal.returns-clause-mark
returns-clause-mark c =
    grind (arith, taken)
