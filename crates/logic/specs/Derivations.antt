-- Derivations of marks for cells, and the closure (the saturation) of a list of axioms. Assumes nothing.
use Rattle.std.specs.Prelude.{ℕ, ◌<◌, List, ◌≢◌}
use Rattle.scale.specs.Order.{Chain, AtMost, lower}
use Rattle.logic.specs.Axioms.{Axiom, is, both, has, from, under, chain, any, none, In}

-- `pair X Y` holds how strongly X falls under Y, `link X r Y` how strongly an X has an r to some Y
pub data Cell : Type 0 where
  pair : (X Y : ℕ) → Cell
  link : (X r Y : ℕ) → Cell

abbrev pub Within : (n k : ℕ) → Cell → Type 0
Within n k (pair X Y) = (X < n) × (Y < n)
Within n k (link X r Y) = (X < n) × (r < k) × (Y < n)

module _ {M : Type 0} (C : Chain M) (n k : ℕ) (axioms : List (Axiom M)) where
  -- the marks that can be derived for a cell: the start marks, and what the rules give of derived marks
  pub data Derives : Cell → M → Type 0 where
    start : (c : Cell) → Within n k c → Derives c C.low
    self : (X : ℕ) → X < n → Derives (pair X X) C.high
    top : (X : ℕ) → X < n → Derives (pair X any) C.high
    by_is : {X A B : ℕ} {m a : M} → In (is A B m) axioms → Derives (pair X A) a → Derives (pair X B) (lower C a m)
    by_both : {X A B D : ℕ} {m a b : M} → In (both A B D m) axioms → Derives (pair X A) a → Derives (pair X B) b → Derives (pair X D) (lower C (lower C a b) m)
    by_has : {X A r B : ℕ} {m a : M} → In (has A r B m) axioms → Derives (pair X A) a → Derives (link X r B) (lower C a m)
    by_from : {X r A B : ℕ} {m a : M} → In (from r A B m) axioms → Derives (link X r A) a → Derives (pair X B) (lower C a m)
    by_under : {X r s Y : ℕ} {m a : M} → In (under r s m) axioms → Derives (link X r Y) a → Derives (link X s Y) (lower C a m)
    by_chain : {X Y Z r q s : ℕ} {m a b : M} → In (chain r q s m) axioms → Derives (link X r Y) a → Derives (link Y q Z) b → Derives (link X s Z) (lower C (lower C a b) m)
    -- a link to a Y is a link to whatever Y falls under, but for `none`
    widen : {X r Y Z : ℕ} {a b : M} → (Z ≢ none) → Derives (link X r Y) a → Derives (pair Y Z) b → Derives (link X r Z) (lower C a b)
    -- what has a link to something that cannot exist cannot exist
    fall : {X r Y : ℕ} {a b : M} → Derives (link X r Y) a → Derives (pair Y none) b → Derives (pair X none) (lower C a b)

  -- each cell holds a mark that some derivation reaches and none exceeds
  pub record Closure (table : Cell → M) : Type 0 where
    pub reached : (c : Cell) → Within n k c → Derives c (table c)
    pub highest : (c : Cell) (m : M) → Within n k c → Derives c m → AtMost C m (table c)
