use Rattle.std.proofs.Common.{◌≡◌, ℕ, ◌<◌, IsUtf8, decimal, rules}
use Rattle.scale.proofs.Decimals.{decimal_utf8}
use Rattle.scale.proofs.per_mille.read_decimal.Goals as goal

pub returns-in_err-text : goal.returns-in_err-text
returns-in_err-text c =
    let no_text : IsUtf8 c.args.word.now → ⊥ = search rules in
    let none : (n : ℕ) → n < 65536 → c.args.word.now ≡ decimal n → ⊥ = λ n fits e. no_text (decimal_utf8 c.args.word.now n fits e) in
    search rules
