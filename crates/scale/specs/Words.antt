-- Words: what the lines of a sheet are made of, and what a written mark is. Assumes nothing.
use Rattle.std.specs.Prelude.{◌≡◌, ℕ, ◌≤◌, Bool, true, ◌&&◌, ◌||◌, List, length, ◌==◌, ◌≢◌, nat_le}
use Rattle.std.specs.List.{AllByRecursion}

-- the byte of `/`
abbrev pub slash : ℕ
slash = 47

abbrev in_range : ℕ → ℕ → ℕ → Bool
in_range from to byte = nat_le from byte && nat_le byte to

-- an ASCII letter, `A` to `Z` or `a` to `z`, a digit `0` to `9`, or a slash
abbrev pub plain : ℕ → Bool
plain byte = in_range 65 90 byte || in_range 97 122 byte || in_range 48 57 byte || byte == slash

-- one to 24 such bytes
pub record Word (bytes : List ℕ) : Type 0 where
  pub some : 1 ≤ length bytes
  pub short : length bytes ≤ 24
  pub plainly : AllByRecursion (λ byte. plain byte ≡ true) bytes

-- no slash among the bytes
abbrev pub NoSlash : List ℕ → Type 0
NoSlash bytes = AllByRecursion (λ byte. byte ≢ slash) bytes
