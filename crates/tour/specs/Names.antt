-- The names of the surfaces and links of the program. Assumes nothing.
use Rattle.std.specs.Prelude.{ℕ, List, [], ◌∷◌, codes, slice_index_or}

abbrev pub terms : List (List ℕ)
terms =
    codes "any" ∷ codes "none" ∷ codes "wet" ∷ codes "slick" ∷ codes "risky" ∷ codes "ice" ∷ codes "smooth" ∷ codes "floor" ∷ codes "moss"
    ∷ codes "cold" ∷ []

abbrev pub links : List (List ℕ)
links = codes "over" ∷ codes "near" ∷ []

-- a number beyond the names has none
abbrev pub name : List (List ℕ) → ℕ → List ℕ
name names number = slice_index_or names number (codes "unnamed")
