-- Derivations stay among the terms and links that there are, and being in range is a proposition. Assumes nothing.
use Rattle.std.proofs.Common.{ℕ, ◌<◌, List, arith}
use Rattle.scale.specs.Order.{Chain}
use Rattle.std.proofs.Math.Bridge.{le_prop}
use Rattle.logic.specs.Axioms.{Axiom, is, both, has, from, under, chain, InRange, AllInRange}
use Rattle.logic.specs.Derivations.{Cell, Within, Derives, start, self, top, by_is, by_both, by_has, by_from, by_under, by_chain, widen, fall}

module _ {M : Type 0} {C : Chain M} {n k : ℕ} {axioms : List (Axiom M)} (two : 1 < n) (ranges : AllInRange n k axioms) where
  pub within : {c : Cell} {m : M} → Derives C n k axioms c m → Within n k c
  within (start c h) = h
  within (self X h) = (h, h)
  within (top X h) = (h, omega arith)
  within (by_is i d) = ((within d).0, (ranges _ i).1)
  within (by_both i d e) = ((within d).0, (ranges _ i).2)
  within (by_has i d) = ((within d).0, (ranges _ i).1, (ranges _ i).2)
  within (by_from i d) = ((within d).0, (ranges _ i).2)
  within (by_under i d) = ((within d).0, (ranges _ i).1, (within d).2)
  within (by_chain i d e) = ((within d).0, (ranges _ i).2, (within e).2)
  within (widen ne d e) = ((within d).0, (within d).1, (within e).1)
  within (fall d e) = ((within d).0, two)

-- whether an axiom is in range is a proposition
pub InRange-prop : {M : Type 0} (n k : ℕ) (a : Axiom M) → IsProp (InRange n k a)
InRange-prop n k (is A B m) = hlevel le_prop
InRange-prop n k (both A B C m) = hlevel le_prop
InRange-prop n k (has A r B m) = hlevel le_prop
InRange-prop n k (from r A B m) = hlevel le_prop
InRange-prop n k (under r s m) = hlevel le_prop
InRange-prop n k (chain r q s m) = hlevel le_prop
