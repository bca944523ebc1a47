-- A cell that rises to a mark of the list makes the table's weight fall. Assumes nothing.
use Rattle.std.proofs.Common.{◌≡◌, ℕ, zero, suc, ◌+◌, ◌<◌, ◌≤◌, Bool, true, false, cond, List, [], ◌∷◌, length, get_or, set, sym, refl, subst, inl, inr, le_of_suc-le-suc, not-suc-le-zero, arith}
use mathlib.Core.List.{Memᴰ}
use Rattle.std.proofs.lemmas.Bool.{both_ways}
use Rattle.scale.specs.Order.{Chain, AtMost, Laws}
use Rattle.scale.proofs.Minima.{at_most_refl, at_most_since}
use Rattle.logic.specs.Ranks.{Among, rank, weight}

-- one mark more, counted or not
step : (u v : Bool) (a b d : ℕ) → (u ≡ true → v ≡ true) → d + a ≤ b → d + cond v a (suc a) ≤ cond u b (suc b)
step true true a b d f h = h
step true false a b d f h = absurd (both_ways false refl (f refl))
step false true a b d f h = omega arith
step false false a b d f h = omega arith

module _ {M : Type 0} {C : Chain M} (laws : Laws C) where
  rank≤ : (es : List M) (m h : M) → AtMost C m h → rank C es h ≤ rank C es m
  unfolding rank
  rank≤ [] m h p = omega arith
  rank≤ (e ∷ es) m h p = omega (arith, step (C.leq e m) (C.leq e h) (rank C es h) (rank C es m) 0 (λ q. laws.trans e m h q p) (omega (arith, rank≤ es m h p)))

  rank< : (m h : M) {es : List M} → Memᴰ h es → C.leq h m ≡ false → rank C es h < rank C es m
  unfolding rank
  rank< m h (Memᴰ.head {x = e} {xs = es} p) a =
      rw (← p, a, at_most_refl laws h) (omega (arith, rank≤ es m h (at_most_since laws h m a)))
  rank< m h (Memᴰ.tail {x = e} {xs = es} i) a =
      omega (arith, step (C.leq e m) (C.leq e h) (rank C es h) (rank C es m) 1 (λ q. laws.trans e m h q (at_most_since laws h m a)) (omega (arith, rank< m h i a)))

  pub weight_falls : (es ms : List M) (i : ℕ) (d h : M) → i < length ms → Among C es h → C.leq h (get_or ms i d) ≡ false → weight C es (set ms i h) < weight C es ms
  unfolding weight
  weight_falls es [] i d h lt k a = absurd (not-suc-le-zero lt)
  weight_falls es (m ∷ ms) zero d h lt (inl e) a = absurd (both_ways _ a (subst (λ x. AtMost C x m) (sym e) (laws.least m)))
  weight_falls es (m ∷ ms) zero d h lt (inr i) a = omega (arith, rank< m h i a)
  weight_falls es (m ∷ ms) (suc i) d h lt k a = omega (arith, weight_falls es ms i d h (le_of_suc-le-suc lt) k a)
