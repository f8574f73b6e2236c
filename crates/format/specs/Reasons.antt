-- The reason that a refusal of a text tells, by the wrong token and the tokens before it alone.
-- In each list of tokens the nearest to the wrong one comes first.
use Rattle.std.specs.Prelude.{◌≡◌, ℕ, ◌<◌, ◌≤◌, Bool, true, false, cond, ◌||◌, ◌⊎◌, List, [], ◌∷◌, length, ℤ, pos, Some, None, codes as text, Option, ◌==◌, ◌↔◌, unsigned_abs}
use Rattle.std.specs.List.{starts_with}
use Rattle.std.specs.Str.{bytes_eq}
use Rattle.mojette.specs.declared.direction.Direction.{Direction}
use Rattle.mojette.specs.Bounds.{most_places, most_step}
use Rattle.mojette.specs.Directions.{lawful, before}
use Rattle.mojette.specs.Meaning.{side_ok}
use Rattle.format.specs.Format.{direction_of}
use Rattle.format.specs.Numbers.{numeral}

-- Where a token stands ----------------------------------------------------------------------------------------------

-- P is the sixth token of a text, and Q the eighth.
abbrev pub size_belongs : List (List ℕ) → Bool
size_belongs ws = length ws == 5 || length ws == 7

-- The word of a line stands behind a line end and `(`.
abbrev pub word_belongs : List (List ℕ) → Bool
word_belongs ws = starts_with bytes_eq ws (text "(" ∷ ((10 ∷ []) ∷ []))

-- p stands behind `(`, `dir` and a space.
abbrev pub p_belongs : List (List ℕ) → Bool
p_belongs ws = starts_with bytes_eq ws (text " " ∷ (text "dir" ∷ (text "(" ∷ [])))

-- the number of the nearest token, where that is a p
abbrev pub p_nearest : List (List ℕ) → Option ℤ
p_nearest [] = None
p_nearest (w ∷ ws) = cond (p_belongs ws) (numeral w) None

-- q stands behind a p and a space: that p, where q belongs
abbrev pub p_of_q : List (List ℕ) → Option ℤ
p_of_q [] = None
p_of_q (w ∷ ws) = cond (bytes_eq w (text " ")) (p_nearest ws) None

-- the places of P and Q, of the word of a line, of p, of q behind some p, and of any other token
pub data Spot : Type 0 where
  at_size : Spot
  at_word : Spot
  at_p : Spot
  at_q : ℤ → Spot
  elsewhere : Spot

abbrev pub spot_of_q : Option ℤ → Spot
spot_of_q None = elsewhere
spot_of_q (Some p) = at_q p

-- where the token behind ws stands, if it is not P or Q
abbrev pub line_spot : List (List ℕ) → Spot
line_spot ws = cond (word_belongs ws) at_word (cond (p_belongs ws) at_p (spot_of_q (p_of_q ws)))

-- where the token behind ws stands: each q is told with its p
abbrev pub spot : List (List ℕ) → Spot
spot ws = cond (size_belongs ws) at_size (line_spot ws)

-- The directions before it ------------------------------------------------------------------------------------------

-- the direction of a q and its p, where there are both, and then those before it
abbrev pub joined : Option ℤ → Option ℤ → List Direction → List Direction
joined None p ds = ds
joined (Some q) None ds = ds
joined (Some q) (Some p) ds = direction_of p q ∷ ds

-- the directions that the tokens tell, the nearest first
abbrev pub directions : List (List ℕ) → List Direction
directions [] = []
directions (w ∷ ws) = joined (numeral w) (p_of_q ws) (directions ws)

-- Reasons -----------------------------------------------------------------------------------------------------------

module _ (ws : List (List ℕ)) (w : List ℕ) where
  -- Reason 1: P or Q is a numeral out of 1 to 64.
  pub record SizeOutside : Type 0 where
    pub here : spot ws ≡ at_size
    pub number : ℤ
    pub is : numeral w ≡ Some number
    pub outside : (n : ℕ) → number ≡ pos n → side_ok n ≡ false

  -- Reason 2: `end` before any place, or `dir` after 16 places.
  pub record CountOutside : Type 0 where
    pub here : spot ws ≡ at_word
    pub outside :
        ((w ≡ text "end") × (directions ws ≡ []))
        ⊎ ((w ≡ text "dir") × (length (directions ws) ≡ most_places))

  -- Reason 3: p is a numeral out of -7 to 7, or q one that makes no lawful direction with its p.
  pub data Unlawful : Type 0 where
    far : spot ws ≡ at_p → (p : ℤ) → numeral w ≡ Some p → most_step < unsigned_abs p → Unlawful
    lawless : (p q : ℤ) → spot ws ≡ at_q p → numeral w ≡ Some q → lawful (direction_of p q) ≡ false → Unlawful

  -- Reason 4: q makes a lawful direction with its p, and it does not come after the last one.
  pub record Disordered : Type 0 where
    pub p : ℤ
    pub here : spot ws ≡ at_q p
    pub q : ℤ
    pub is : numeral w ≡ Some q
    pub law : lawful (direction_of p q) ≡ true
    pub last : Direction
    pub others : List Direction
    pub told : directions ws ≡ last ∷ others
    pub order : before last (direction_of p q) ≡ false

  -- The reason of the wrong token w behind the tokens ws: 1 to 4 just where its own fact holds, and 0 at any other.
  pub record TellsReason (why : ℕ) : Type 0 where
    pub at_most : why ≤ 4
    pub size : (why ≡ 1) ↔ SizeOutside
    pub count : (why ≡ 2) ↔ CountOutside
    pub direction : (why ≡ 3) ↔ Unlawful
    pub order : (why ≡ 4) ↔ Disordered
