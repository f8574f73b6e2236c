-- The lines of a listing.
use Rattle.std.specs.Prelude.{ℕ, List, [], ◌∷◌, ◌++◌, codes as text, decimal}
use Rattle.std.specs.List.{flat_map}
use Rattle.samples.specs.declared.coded.Coded.{Ghosts as Codes}
use Rattle.samples.specs.Reading.{code}

-- the texts of some items, each after a space
abbrev pub spaced : {A : Type 0} → (A → List ℕ) → List A → List ℕ
spaced f xs = flat_map (λ x. 32 ∷ f x) xs

-- a word and numbers in brackets, with the line end
abbrev pub line_text : List ℕ → List ℕ → List ℕ
line_text word numbers = text "(" ++ (word ++ (spaced decimal numbers ++ (text ")" ++ (10 ∷ []))))

-- the line of a row of samples, over any kind that has codes
abbrev pub row_text : {S : Type 0} → Codes S → List S → List ℕ
row_text C xs = text "(row" ++ (spaced (code C) xs ++ (text ")" ++ (10 ∷ [])))
