use Rattle.std.proofs.Common.{◌≡◌, ◌≢◌, ◌<◌, ℕ, List, Option, Some, None, MatchOption, length, slice_index, take, arith, rules, tests}
use Rattle.std.specs.List.{AllWithin, HoldsAt}
use Rattle.std.proofs.ByRecursion.{all_from_every}
use Rattle.std.proofs.lemmas.Grind.{common_steps}
use Rattle.std.proofs.lemmas.Iterator.{YieldsList-from_slice, IsFirst-from_position}
use Rattle.scale.specs.Words.{slash, NoSlash}
use Rattle.scale.proofs.ranked.first_slash.Goals as goal

no_slash : (word : List ℕ) (i : ℕ) → i < length word → AllWithin (λ b. b ≢ slash) word 0 i → NoSlash (take i word)
no_slash word i fits before = all_from_every (λ b. b ≢ slash) (take i word) (λ k d low high. grind (arith, common_steps, before k d))

first : (word : List ℕ) (r : Option ℕ) → MatchOption r (AllWithin (λ b. b ≢ slash) word 0 (length word)) (λ i. (i < length word) × HoldsAt (λ b. b ≡ slash) word i × AllWithin (λ b. b ≢ slash) word 0 i) → MatchOption r (NoSlash word) (λ i. NoSlash (take i word) × (i < length word) × (slice_index word i ≡ slash))
first word None none = all_from_every (λ b. b ≢ slash) word none
first word (Some i) (fits, at, before) = (no_slash word i fits before, fits, at 0)

pub returns : goal.returns
returns c =
    first c.args.word.now c.position.result
    (IsFirst-from_position _ _ c.position.result (λ b. b ≡ slash) (λ b. b ≢ slash) c.position.ensures.ran (YieldsList-from_slice c.args.word.now cc) (λ x q k. search (rules, tests)) (λ x q k. search (rules, tests)))
