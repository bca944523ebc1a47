-- The per-mille scale: the whole numbers 0 to 1000. Assumes nothing.
use Rattle.std.specs.Prelude.{◌≡◌, ℕ, ◌+◌, ◌*◌, ◌≤◌, List, Result, MatchResult, decimal}
use Rattle.scale.specs.Order.{Chain, numbered}
use Rattle.scale.specs.declared.digits.Digit.{Digit}
use Rattle.scale.specs.declared.digits.Digit.TheVariants.{Zero, One, Two, Three, Four, Five, Six, Seven, Eight, Nine}
use Rattle.scale.specs.declared.digits.NotADigit.{NotADigit}
use Rattle.scale.specs.declared.per_mille.PerMille.{PerMille}
use Rattle.scale.specs.declared.per_mille.PerMille.TheVariants.{Thousand, Digits}

abbrev pub digit : Digit → ℕ
digit Zero = 0
digit One = 1
digit Two = 2
digit Three = 3
digit Four = 4
digit Five = 5
digit Six = 6
digit Seven = 7
digit Eight = 8
digit Nine = 9

-- the digit of a number, or an error with a number that no digit has
abbrev pub IsDigitOf : ℕ → Result Digit NotADigit → Type 0
IsDigitOf number r = MatchResult r (λ d. digit d ≡ number) (λ e. (e.0 ≡ number) × (10 ≤ number))

-- the number that a per-mille mark is
abbrev pub thousandths : PerMille → ℕ
thousandths Thousand = 1000
thousandths (Digits hundreds tens ones) = 100 * digit hundreds + 10 * digit tens + digit ones

abbrev pub mille_order : Chain PerMille
mille_order = numbered thousandths (Digits Zero Zero Zero) Thousand

-- the marks are exactly the whole numbers 0 to 1000
pub record Whole : Type 0 where
  pub within : (m : PerMille) → thousandths m ≤ 1000
  pub every : (n : ℕ) → n ≤ 1000 → (m : PerMille) × (thousandths m ≡ n)
  pub once : (a b : PerMille) → thousandths a ≡ thousandths b → a ≡ b

-- a per-mille mark is written in decimal, without leading zeros
abbrev pub mille_bytes : PerMille → List ℕ
mille_bytes m = decimal (thousandths m)
