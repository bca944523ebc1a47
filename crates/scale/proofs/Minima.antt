-- What the laws of a scale give of its order and of the lower of two marks. Assumes nothing.
use Rattle.std.proofs.Common.{◌≡◌, false, inl, inr}
use Rattle.std.proofs.lemmas.Bool.{both_ways, cond_both}
use Rattle.scale.specs.Order.{Chain, AtMost, Laws, lower}

module _ {M : Type 0} {C : Chain M} (laws : Laws C) where
  pub at_most_refl : (a : M) → AtMost C a a
  at_most_refl a = elim (laws.total a a) [ inl h ↦ h | inr h ↦ h ]

  -- a mark that is not at most another is above it
  pub at_most_since : (a b : M) → C.leq a b ≡ false → AtMost C b a
  at_most_since a b above = elim (laws.total a b) [ inl h ↦ absurd (both_ways _ above h) | inr h ↦ h ]

  pub lower_left : (a b : M) → AtMost C (lower C a b) a
  lower_left a b = cond_both (C.leq a b) a b (λ l. AtMost C l a) (λ _. at_most_refl a) (at_most_since a b)

  pub lower_right : (a b : M) → AtMost C (lower C a b) b
  lower_right a b = cond_both (C.leq a b) a b (λ l. AtMost C l b) (λ h. h) (λ _. at_most_refl b)

  pub lower_greatest : (z a b : M) → AtMost C z a → AtMost C z b → AtMost C z (lower C a b)
  lower_greatest z a b p q = cond_both (C.leq a b) a b (λ l. AtMost C z l) (λ _. p) (λ _. q)

  pub lower_mono : (a b c d : M) → AtMost C a c → AtMost C b d → AtMost C (lower C a b) (lower C c d)
  lower_mono a b c d p q =
      lower_greatest (lower C a b) c d (laws.trans _ a c (lower_left a b) p) (laws.trans _ b d (lower_right a b) q)
