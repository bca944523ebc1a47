-- Tables of marks: those that meet the rules, the least of them, and the saturated one. Assumes nothing.
use Rattle.std.specs.Prelude.{ℕ, ◌<◌, List, ◌≢◌}
use Rattle.scale.specs.Order.{Chain, AtMost, lower}
use Rattle.logic.specs.Axioms.{Axiom, is, both, has, from, under, chain, any, none, In}
use Rattle.logic.specs.Derivations.{Cell, pair, link, Within, Closure}
use Rattle.logic.specs.Ranks.{marks, Among}

module _ {M : Type 0} (C : Chain M) (n : ℕ) (t : Cell → M) where
  -- what an axiom asks of the cells of the term X
  abbrev pub Asks : Axiom M → (X : ℕ) → Type 0
  Asks (is A B m) X = AtMost C (lower C (t (pair X A)) m) (t (pair X B))
  Asks (both A B D m) X = AtMost C (lower C (lower C (t (pair X A)) (t (pair X B))) m) (t (pair X D))
  Asks (has A r B m) X = AtMost C (lower C (t (pair X A)) m) (t (link X r B))
  Asks (from r A B m) X = AtMost C (lower C (t (link X r A)) m) (t (pair X B))
  Asks (under r s m) X = (Y : ℕ) → Y < n → AtMost C (lower C (t (link X r Y)) m) (t (link X s Y))
  Asks (chain r q s m) X = (Y : ℕ) → Y < n → (Z : ℕ) → Z < n → AtMost C (lower C (lower C (t (link X r Y)) (t (link Y q Z))) m) (t (link X s Z))

  -- what the link r from X to Y asks, whatever the axioms
  pub record Spreads (X r Y : ℕ) : Type 0 where
    pub widens : (Z : ℕ) → Z < n → (Z ≢ none) → AtMost C (lower C (t (link X r Y)) (t (pair Y Z))) (t (link X r Z))
    pub falls : AtMost C (lower C (t (link X r Y)) (t (pair Y none))) (t (pair X none))

  -- the table is at least the start marks and meets every rule
  pub record Meets (k : ℕ) (axioms : List (Axiom M)) : Type 0 where
    pub self : (X : ℕ) → X < n → AtMost C C.high (t (pair X X))
    pub top : (X : ℕ) → X < n → AtMost C C.high (t (pair X any))
    pub asks : (a : Axiom M) → In a axioms → (X : ℕ) → X < n → Asks a X
    pub spreads : (X : ℕ) → X < n → (r : ℕ) → r < k → (Y : ℕ) → Y < n → Spreads X r Y

-- the least table that is at least the start marks and meets every rule
pub record Least {M : Type 0} (C : Chain M) (n k : ℕ) (axioms : List (Axiom M)) (table : Cell → M) : Type 0 where
  pub meets : Meets C n table k axioms
  pub least : (other : Cell → M) → Meets C n other k axioms → (c : Cell) → Within n k c → AtMost C (table c) (other c)

-- the closure; it is the least table that meets the rules, and holds no mark but the lowest, the highest and the axioms' own
pub record Saturated {M : Type 0} (C : Chain M) (n k : ℕ) (axioms : List (Axiom M)) (table : Cell → M) : Type 0 where
  pub closure : Closure C n k axioms table
  pub least : Least C n k axioms table
  pub own : (c : Cell) → Within n k c → Among C (marks C axioms) (table c)
