-- What cards say: graded axioms in normal form. A term (a concept name) is a number below n, a link (a role name) a number below k. Assumes nothing.
use Rattle.std.specs.Prelude.{ℕ, ◌<◌, List}
use mathlib.Core.List.{Memᴰ}

-- `any` (top): the term that every thing is
abbrev pub any : ℕ
any = 0

-- `none` (bottom): the term that no thing is
abbrev pub none : ℕ
none = 1

-- the mark is the degree to which the axiom holds
pub data Axiom (M : Type 0) : Type 0 where
  -- A falls under B
  is : (A B : ℕ) → M → Axiom M
  -- what is A and B falls under C
  both : (A B C : ℕ) → M → Axiom M
  -- an A has an r to some B
  has : (A r B : ℕ) → M → Axiom M
  -- what has an r to some A falls under B
  from : (r A B : ℕ) → M → Axiom M
  -- an r is an s
  under : (r s : ℕ) → M → Axiom M
  -- an r followed by a q is an s
  chain : (r q s : ℕ) → M → Axiom M

abbrev pub mark_of : {M : Type 0} → Axiom M → M
mark_of (is A B m) = m
mark_of (both A B C m) = m
mark_of (has A r B m) = m
mark_of (from r A B m) = m
mark_of (under r s m) = m
mark_of (chain r q s m) = m

abbrev pub In : {M : Type 0} → Axiom M → List (Axiom M) → Type 0
In a axioms = Memᴰ a axioms

-- its terms are below n and its links below k
abbrev pub InRange : {M : Type 0} → (n k : ℕ) → Axiom M → Type 0
InRange n k (is A B m) = (A < n) × (B < n)
InRange n k (both A B C m) = (A < n) × (B < n) × (C < n)
InRange n k (has A r B m) = (A < n) × (r < k) × (B < n)
InRange n k (from r A B m) = (r < k) × (A < n) × (B < n)
InRange n k (under r s m) = (r < k) × (s < k)
InRange n k (chain r q s m) = (r < k) × (q < k) × (s < k)

abbrev pub AllInRange : {M : Type 0} → (n k : ℕ) → List (Axiom M) → Type 0
AllInRange {M} n k axioms = (a : Axiom M) → In a axioms → InRange n k a
