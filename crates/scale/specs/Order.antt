-- What a scale is: a total order on its marks whose lowest and highest mark differ. A mark is a truth degree. Assumes nothing.
use Rattle.std.specs.Prelude.{◌≡◌, ℕ, Bool, true, cond, ◌⊎◌, nat_le}

-- the question whether one mark is at most another, and the two ends
pub record Chain (M : Type 0) : Type 0 where
  pub leq : M → M → Bool
  pub low : M
  pub high : M

abbrev pub AtMost : {M : Type 0} → Chain M → M → M → Type 0
AtMost C a b = C.leq a b ≡ true

-- the laws of a scale
pub record Laws {M : Type 0} (C : Chain M) : Type 0 where
  -- of two marks, one is at most the other
  pub total : (a b : M) → AtMost C a b ⊎ AtMost C b a
  pub trans : (a b c : M) → AtMost C a b → AtMost C b c → AtMost C a c
  -- two marks that are each at most the other are the same mark
  pub antisym : (a b : M) → AtMost C a b → AtMost C b a → a ≡ b
  pub least : (a : M) → AtMost C C.low a
  pub greatest : (a : M) → AtMost C a C.high
  pub apart : C.low ≡ C.high → ⊥

-- the lower of two marks
abbrev pub lower : {M : Type 0} → Chain M → M → M → M
lower C a b = cond (C.leq a b) a b

-- l is the lower of a and b: one of them, at most both, and whatever is at most both is at most it
pub record Lower {M : Type 0} (C : Chain M) (a b l : M) : Type 0 where
  pub one : (l ≡ a) ⊎ (l ≡ b)
  pub left : AtMost C l a
  pub right : AtMost C l b
  pub greatest : (z : M) → AtMost C z a → AtMost C z b → AtMost C z l

-- marks ordered by a number that each of them has
abbrev pub numbered : {M : Type 0} → (M → ℕ) → M → M → Chain M
numbered number low high = record { leq = λ a b. nat_le (number a) (number b); low = low; high = high }
