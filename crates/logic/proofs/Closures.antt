-- A table that meets the rules and holds derived marks is saturated. Assumes nothing.
use Rattle.std.proofs.Common.{ℕ, ◌<◌, List}
use Rattle.scale.specs.Order.{Chain, AtMost, Laws, lower}
use Rattle.scale.proofs.Minima.{at_most_refl, lower_mono}
use Rattle.logic.specs.Axioms.{Axiom, is, both, has, from, under, chain, none, AllInRange}
use Rattle.logic.specs.Derivations.{Cell, pair, link, Within, Derives, start, self, top, by_is, by_both, by_has, by_from, by_under, by_chain, widen, fall}
use Rattle.logic.specs.Tables.{Meets, Saturated}
use Rattle.logic.proofs.Ranges.{within}
use Rattle.logic.proofs.Marks.{among}

module _ {M : Type 0} {C : Chain M} (laws : Laws C) {n k : ℕ} {axioms : List (Axiom M)} (two : 1 < n) (ranges : AllInRange n k axioms) where
  module _ (t : Cell → M) (meets : Meets C n t k axioms) where
    -- one premise and a mark; two premises; two premises and a mark
    one : (a b m z : M) → AtMost C a b → AtMost C (lower C b m) z → AtMost C (lower C a m) z
    one a b m z p h = laws.trans _ (lower C b m) z (lower_mono laws a m b m p (at_most_refl laws m)) h

    two_of : (a b c d z : M) → AtMost C a c → AtMost C b d → AtMost C (lower C c d) z → AtMost C (lower C a b) z
    two_of a b c d z p q h = laws.trans _ (lower C c d) z (lower_mono laws a b c d p q) h

    pub highest_of_meets : {c : Cell} {m : M} → Derives C n k axioms c m → AtMost C m (t c)
    highest_of_meets (start c h) = laws.least (t c)
    highest_of_meets (self X h) = meets.self X h
    highest_of_meets (top X h) = meets.top X h
    highest_of_meets (by_is {X} {A} {B} {m} {a} i d) =
        one a (t (pair X A)) m _ (highest_of_meets d) (meets.asks (is A B m) i X (within two ranges d).0)
    highest_of_meets (by_both {X} {A} {B} {D} {m} {a} {b} i d e) =
        one _ _ m _ (lower_mono laws a b (t (pair X A)) (t (pair X B)) (highest_of_meets d) (highest_of_meets e))
        (meets.asks (both A B D m) i X (within two ranges d).0)
    highest_of_meets (by_has {X} {A} {r} {B} {m} {a} i d) =
        one a (t (pair X A)) m _ (highest_of_meets d) (meets.asks (has A r B m) i X (within two ranges d).0)
    highest_of_meets (by_from {X} {r} {A} {B} {m} {a} i d) =
        one a (t (link X r A)) m _ (highest_of_meets d) (meets.asks (from r A B m) i X (within two ranges d).0)
    highest_of_meets (by_under {X} {r} {s} {Y} {m} {a} i d) =
        one a (t (link X r Y)) m _ (highest_of_meets d) (meets.asks (under r s m) i X (within two ranges d).0 Y (within two ranges d).2)
    highest_of_meets (by_chain {X} {Y} {Z} {r} {q} {s} {m} {a} {b} i d e) =
        one _ _ m _ (lower_mono laws a b (t (link X r Y)) (t (link Y q Z)) (highest_of_meets d) (highest_of_meets e))
        (meets.asks (chain r q s m) i X (within two ranges d).0 Y (within two ranges d).2 Z (within two ranges e).2)
    highest_of_meets (widen {X} {r} {Y} {Z} {a} {b} ne d e) =
        two_of a b (t (link X r Y)) (t (pair Y Z)) _ (highest_of_meets d) (highest_of_meets e)
        ((meets.spreads X (within two ranges d).0 r (within two ranges d).1 Y (within two ranges d).2).widens Z (within two ranges e).1 ne)
    highest_of_meets (fall {X} {r} {Y} {a} {b} d e) =
        two_of a b (t (link X r Y)) (t (pair Y none)) _ (highest_of_meets d) (highest_of_meets e)
        (meets.spreads X (within two ranges d).0 r (within two ranges d).1 Y (within two ranges d).2).falls

  module _ (t : Cell → M) (meets : Meets C n t k axioms) (reached : (c : Cell) → Within n k c → Derives C n k axioms c (t c)) where
    pub saturated_of_meets : Saturated C n k axioms t
    saturated_of_meets = record {
      closure = record { reached = reached; highest = λ c m h d. highest_of_meets t meets d };
      least = record { meets = meets; least = λ other h c w. highest_of_meets other h (reached c w) };
      own = λ c h. among (reached c h);
    }
