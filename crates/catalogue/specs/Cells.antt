-- Where the cells lie in the two tables. Assumes nothing.
use Rattle.std.specs.Prelude.{ℕ, ◌+◌, ◌*◌, List, slice_index_or}
use Rattle.scale.specs.Order.{Chain}
use Rattle.logic.specs.Derivations.{Cell, pair, link}

-- the pair cell of X and Y
abbrev pub pair_cell : {M : Type 0} → Chain M → (n : ℕ) → (pairs : List M) → (X Y : ℕ) → M
pair_cell C n pairs X Y = slice_index_or pairs (X * n + Y) C.low

-- the link cell of X, r and Y
abbrev pub link_cell : {M : Type 0} → Chain M → (n : ℕ) → (links : List M) → (X r Y : ℕ) → M
link_cell C n links X r Y = slice_index_or links ((r * n + X) * n + Y) C.low

-- both tables, by their cells
abbrev pub cells : {M : Type 0} → Chain M → (n : ℕ) → (pairs links : List M) → Cell → M
cells C n pairs links (pair X Y) = pair_cell C n pairs X Y
cells C n pairs links (link X r Y) = link_cell C n links X r Y
