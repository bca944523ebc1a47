-- The written forms of marks, and what it is to print and to read one. Assumes nothing.
use Rattle.std.specs.Prelude.{◌≡◌, ℕ, ◌+◌, ◌-◌, ◌<◌, ◌≤◌, List, ◌++◌, length, take, drop, Some, None, Option, ◌≢◌}
use Rattle.scale.specs.Words.{Word}

-- the laws of a written scale, by the bytes of each mark and the greatest width
pub record Forms {M : Type 0} (bytes : M → List ℕ) (width : ℕ) : Type 0 where
  pub word : (m : M) → Word (bytes m)
  -- two marks never share a form
  pub distinct : (a b : M) → bytes a ≡ bytes b → a ≡ b
  -- a form is never longer than the width, and some form is as long
  pub within : (m : M) → length (bytes m) ≤ width
  pub widest : (m : M) × (length (bytes m) ≡ width)

-- a buffer in which the bytes stand from a place on, and every other byte is as before
abbrev pub overwrite : List ℕ → ℕ → List ℕ → List ℕ
overwrite before at bytes = take at before ++ (bytes ++ drop (at + length bytes) before)

-- what printing answers and leaves: the place after the bytes, which now stand there, or none where they do not fit, and then every byte is as before
abbrev pub Printed : List ℕ → ℕ → List ℕ → List ℕ → Option ℕ → Type 0
Printed bytes at before after (Some end) = (end ≡ at + length bytes) × (end ≤ length before) × (after ≡ overwrite before at bytes)
Printed bytes at before after None = (length before < at + length bytes) × (after ≡ before)

-- what reading answers: a mark whose form the word is, or none where it is no mark's form
abbrev pub Reads : {M : Type 0} → (M → List ℕ) → List ℕ → Option M → Type 0
Reads bytes word (Some m) = word ≡ bytes m
Reads {M} bytes word None = (m : M) → word ≢ bytes m

-- reading what was printed gives the mark back
abbrev pub RoundTrip : {M : Type 0} → (M → List ℕ) → Type 0
RoundTrip {M} bytes = (m : M) (at end : ℕ) (before after : List ℕ) (r : Option M) → Printed (bytes m) at before after (Some end) → Reads bytes (take (end - at) (drop at after)) r → r ≡ Some m
