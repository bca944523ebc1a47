-- The best mark of one term in another, by the pair cells of the closure. Assumes nothing.
use Rattle.std.specs.Prelude.{ℕ, cond}
use Rattle.scale.specs.Order.{Chain}
use Rattle.logic.specs.Axioms.{none}

-- the highest mark if A falls under `none` above the lowest mark, else the mark of the pair
abbrev pub best : {M : Type 0} → Chain M → (pairs : (X Y : ℕ) → M) → (A B : ℕ) → M
best C pairs A B = cond (C.leq (pairs A none) C.low) (pairs A B) C.high
