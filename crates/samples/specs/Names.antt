-- Words of a text, and the names of kinds.
use Rattle.std.specs.Prelude.{◌≡◌, ℕ, ◌≤◌, Bool, false, ◌||◌, List, [], ◌∷◌, length, ◌==◌}

-- the bytes that are tokens by themselves: the two brackets, the space and the line end
abbrev pub mark : ℕ → Bool
mark b = b == 40 || (b == 41 || (b == 32 || b == 10))

-- no byte is a mark
abbrev pub Unmarked : List ℕ → Type 0
Unmarked [] = Unit {0}
Unmarked (b ∷ bs) = (mark b ≡ false) × Unmarked bs

-- a word: one byte or more, and no mark among them
abbrev pub IsWord : List ℕ → Type 0
IsWord [] = ⊥
IsWord (b ∷ bs) = (mark b ≡ false) × Unmarked bs

-- the name of a kind is a short word
pub record Naming (name : List ℕ) : Type 0 where
  pub word : IsWord name
  pub short : length name ≤ 255
