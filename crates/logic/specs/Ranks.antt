-- How far marks are below the highest: what falls as a table rises. Assumes nothing.
use Rattle.std.specs.Prelude.{◌≡◌, ℕ, suc, ◌+◌, cond, ◌⊎◌, List, [], ◌∷◌, map}
use mathlib.Core.List.{Memᴰ}
use Rattle.scale.specs.Order.{Chain}
use Rattle.logic.specs.Axioms.{Axiom, mark_of}

-- the highest mark and the axioms' own: with the lowest, all that can be derived
abbrev pub marks : {M : Type 0} → Chain M → List (Axiom M) → List M
marks C axioms = C.high ∷ map mark_of axioms

-- the lowest mark, or one of a list
abbrev pub Among : {M : Type 0} → Chain M → List M → M → Type 0
Among C es m = (m ≡ C.low) ⊎ Memᴰ m es

-- how many marks of a list are above m
unfoldable pub rank : {M : Type 0} → Chain M → List M → M → ℕ
rank C [] m = 0
rank C (e ∷ es) m = cond (C.leq e m) (rank C es m) (suc (rank C es m))

-- the ranks of the cells of a table, summed
unfoldable pub weight : {M : Type 0} → Chain M → List M → List M → ℕ
weight C es [] = 0
weight C es (m ∷ ms) = rank C es m + weight C es ms
