-- What raising cells does to the tables. The contracts of the saturation's private functions are made of it. Assumes nothing.
use Rattle.std.specs.Prelude.{◌≡◌, ℕ, ◌+◌, ◌*◌, ◌<◌, ◌≤◌, Bool, true, false, List, ◌≢◌, slice_set}
use Rattle.scale.specs.Order.{Chain, AtMost, lower}
use Rattle.logic.specs.Axioms.{Axiom, In, any, none}
use Rattle.logic.specs.Derivations.{Cell, pair, link, Within, Derives}
use Rattle.logic.specs.Tables.{Asks, Spreads}
use Rattle.logic.specs.Ranks.{marks, weight}
use Rattle.catalogue.specs.Cells.{cells}
use Rattle.catalogue.specs.declared.tables.Cell.{Cell as CellName}
use Rattle.catalogue.specs.declared.tables.Cell.TheVariants.{Pair, Link}
use Rattle.catalogue.specs.declared.tables.Tables.{Tables}

-- the cell that a name means
abbrev pub named : CellName → Cell
named (Pair x y) = pair x y
named (Link x r y) = link x r y

-- what the tables hold in a cell
abbrev pub held : {M : Type 0} → Chain M → Tables M → Cell → M
held C t c = cells C t.size.n t.pairs.now t.links.now c

-- the tables are the same, of the same size, whatever the cells hold
pub record Stays {M : Type 0} (old new : Tables M) : Type 0 where
  pub size : new.size ≡ old.size
  pub cards : new.cards.now ≡ old.cards.now
  pub pairs : new.pairs.ghost_name ≡ old.pairs.ghost_name
  pub links : new.links.ghost_name ≡ old.links.ghost_name

-- the pair table and the link table with a mark put into a cell
abbrev pub put_pair : {M : Type 0} → (n : ℕ) → Cell → M → List M → List M
put_pair n (pair X Y) m pairs = slice_set pairs (X * n + Y) m
put_pair n (link X r Y) m pairs = pairs

abbrev pub put_link : {M : Type 0} → (n : ℕ) → Cell → M → List M → List M
put_link n (pair X Y) m links = links
put_link n (link X r Y) m links = slice_set links ((r * n + X) * n + Y) m

pub record Puts {M : Type 0} (old : Tables M) (c : Cell) (m : M) (new : Tables M) : Type 0 where
  pub stays : Stays old new
  pub pairs : new.pairs.now ≡ put_pair old.size.n c m old.pairs.now
  pub links : new.links.now ≡ put_link old.size.n c m old.links.now

-- the cell holds the higher of what it held and a mark; `rose` tells whether that is the mark
pub data Raised {M : Type 0} (C : Chain M) (old : Tables M) (c : Cell) (m : M) (new : Tables M) (rose : Bool) : Type 0 where
  raised : C.leq m (held C old c) ≡ false → Puts old c m new → rose ≡ true → Raised C old c m new rose
  kept : AtMost C m (held C old c) → new ≡ old → rose ≡ false → Raised C old c m new rose

abbrev pub Includes : {M : Type 0} → List (Axiom M) → List (Axiom M) → Type 0
Includes {M} some axioms = (a : Axiom M) → In a some → In a axioms

module _ {M : Type 0} (C : Chain M) where
  -- each cell holds a mark that can be derived for it
  abbrev pub Derived : List (Axiom M) → Tables M → Type 0
  Derived axioms t = (c : Cell) → Within t.size.n t.size.k c → Derives C t.size.n t.size.k axioms c (held C t c)

  -- how far the cells are below the highest mark, in marks that can be derived
  abbrev pub room : List (Axiom M) → Tables M → ℕ
  room axioms t = weight C (marks C axioms) t.pairs.now + weight C (marks C axioms) t.links.now

  -- no cell fell, each holds a derived mark, and there is less left to rise
  pub record Rise (axioms : List (Axiom M)) (old new : Tables M) (rose : Bool) : Type 0 where
    pub derived : Derived axioms new
    pub rises : (c : Cell) → AtMost C (held C old c) (held C new c)
    pub less : room axioms new ≤ room axioms old
    pub falls : rose ≡ true → room axioms new < room axioms old

  -- some cells were raised, each to a mark that follows by some axioms; `rose` tells whether any was
  pub record Raises (some : List (Axiom M)) (old new : Tables M) (rose : Bool) : Type 0 where
    pub stays : Stays old new
    pub still : rose ≡ false → new ≡ old
    pub rise : (axioms : List (Axiom M)) → Includes some axioms → Derived axioms old → Rise axioms old new rose

  -- the same, turn by turn: if no cell was raised, then what each of the turns below x is for is met
  pub record Turns (some : List (Axiom M)) (IsMet : Tables M → ℕ → Type 0) (x : ℕ) (old new : Tables M) (rose : Bool) : Type 0 where
    pub raises : Raises some old new rose
    pub met : rose ≡ false → (j : ℕ) → j < x → IsMet new j

  -- cells were raised by some axioms, and if none was, then the term X has what these ask of it
  pub record Applies (some : List (Axiom M)) (X : ℕ) (old new : Tables M) (rose : Bool) : Type 0 where
    pub raises : Raises some old new rose
    pub met : rose ≡ false → (a : Axiom M) → In a some → Asks C new.size.n (held C new) a X

  -- the marks at the start: the highest where a term falls under itself or `any`, and no mark that cannot be derived
  abbrev pub Tops : Tables M → (X : ℕ) → Type 0
  Tops t X = AtMost C C.high (held C t (pair X X)) × AtMost C C.high (held C t (pair X any))

  pub record Started (t : Tables M) : Type 0 where
    pub derived : (axioms : List (Axiom M)) → Derived axioms t
    pub tops : (X : ℕ) → X < t.size.n → Tops t X

  -- what `under r s m` asks of the link from X to Y, and `chain r q s m` of that from X to Z over Y
  abbrev pub UnderMet : (X r s : ℕ) → M → Tables M → (Y : ℕ) → Type 0
  UnderMet X r s m t Y = AtMost C (lower C (held C t (link X r Y)) m) (held C t (link X s Y))

  abbrev pub ChainMet : (X Y r q s : ℕ) → M → Tables M → (Z : ℕ) → Type 0
  ChainMet X Y r q s m t Z = AtMost C (lower C (lower C (held C t (link X r Y)) (held C t (link Y q Z))) m) (held C t (link X s Z))

  -- every term has what some axioms ask of it
  abbrev pub AllAsked : List (Axiom M) → Tables M → Type 0
  AllAsked some t = (a : Axiom M) → In a some → (X : ℕ) → X < t.size.n → Asks C t.size.n (held C t) a X

  -- what the link r from X to Y asks of the link to Z
  abbrev pub WidenMet : (X r Y : ℕ) → Tables M → (Z : ℕ) → Type 0
  WidenMet X r Y t Z = (Z ≢ none) → AtMost C (lower C (held C t (link X r Y)) (held C t (pair Y Z))) (held C t (link X r Z))

  -- what the link r from X to Y asks, whatever the axioms; what every link from X asks
  abbrev pub SpreadMet : (X r : ℕ) → Tables M → (Y : ℕ) → Type 0
  SpreadMet X r t Y = Spreads C t.size.n (held C t) X r Y

  abbrev pub AllSpreadMet : Tables M → (X : ℕ) → Type 0
  AllSpreadMet t X = (r : ℕ) → r < t.size.k → (Y : ℕ) → Y < t.size.n → SpreadMet X r t Y

  -- no rule asks more of the tables
  pub record Settled (axioms : List (Axiom M)) (t : Tables M) : Type 0 where
    pub asks : AllAsked axioms t
    pub spreads : (X : ℕ) → X < t.size.n → AllSpreadMet t X
