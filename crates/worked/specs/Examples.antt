-- Worked examples in sum words, in one table.
use Rattle.std.specs.Prelude.{◌≡◌, ℕ, Bool, true, not, ◌&&◌, List, [], ◌∷◌, map, ℤ, pos, negsuc}
use Rattle.std.specs.Str.{bytes_eq}
use Rattle.samples.specs.declared.words.SumWord.{SumWord}
use Rattle.samples.specs.Kinds.{sum_words}
use Rattle.samples.specs.Words.{sum_of}
use Rattle.mojette.specs.declared.direction.Direction.{Direction}
use Rattle.mojette.specs.declared.direction.Record.{Record}
use Rattle.mojette.specs.Bins.{whole_directions}
use Rattle.mojette.specs.Transform.{projection}
use Rattle.katz.specs.Made.{ghost_tile}
use Rattle.katz.specs.Sets.{enough as criterion}

-- An example: the sums of the tile 1 2 / 3 4 along a direction; or what the whole places of a tile of some size come to, their
-- ghost, or that they suffice.
pub data Example : Type 0 where
  sums : Direction → List ℕ → Example
  ghost : ℕ → ℕ → List Record → List ℕ → Example
  enough : ℕ → ℕ → List Record → Example

abbrev pub direction : ℤ → ℤ → Direction
direction p q = record { p = p; q = q }

abbrev pub whole : ℤ → ℤ → Record
whole p q = record { direction = direction p q; cause = 0 }

abbrev pub lost : ℤ → ℤ → ℕ → Record
lost p q cause = record { direction = direction p q; cause = cause }

abbrev pub table : List Example
table =
    sums (direction (pos 1) (pos 0)) (3 ∷ 7 ∷ [])
    ∷ sums (direction (pos 0) (pos 1)) (6 ∷ 4 ∷ [])
    ∷ sums (direction (pos 1) (pos 1)) (2 ∷ 5 ∷ 3 ∷ [])
    ∷ sums (direction (negsuc 0) (pos 1)) (4 ∷ 5 ∷ 1 ∷ [])
    ∷ sums (direction (pos 3) (pos 2)) (2 ∷ 0 ∷ 1 ∷ 4 ∷ 0 ∷ 3 ∷ [])
    ∷ ghost 2 2 (whole (pos 1) (pos 0) ∷ whole (pos 0) (pos 1) ∷ []) (0x0001 ∷ 0xFFFF ∷ 0xFFFF ∷ 0x0001 ∷ [])
    ∷ ghost 2 2 (whole (negsuc 0) (pos 1) ∷ []) (0x0000 ∷ 0x0001 ∷ 0xFFFF ∷ 0x0000 ∷ [])
    ∷ ghost 3 3 (whole (pos 1) (pos 1) ∷ whole (negsuc 0) (pos 1) ∷ []) (0 ∷ 1 ∷ 0 ∷ 0xFFFF ∷ 0 ∷ 0xFFFF ∷ 0 ∷ 1 ∷ 0 ∷ [])
    ∷ enough 3 3 (whole (pos 1) (pos 1) ∷ whole (pos 0) (pos 1) ∷ whole (negsuc 0) (pos 1) ∷ [])
    ∷ enough 1 1 (whole (pos 0) (pos 1) ∷ [])
    ∷ ghost 1 1 (lost (pos 0) (pos 1) 1 ∷ []) (0x0001 ∷ [])
    ∷ []

abbrev numbers : List SumWord → List ℕ
numbers tile = map (λ x. x.value) tile

-- An example is as the definitions have it.
abbrev pub right : Example → Bool
right (sums d wanted) = bytes_eq (numbers (projection sum_words 2 2 (map sum_of (1 ∷ 2 ∷ 3 ∷ 4 ∷ [])) d)) wanted
right (ghost P Q es wanted) = not (criterion P Q (whole_directions es)) && bytes_eq (numbers (ghost_tile sum_words P Q (whole_directions es))) wanted
right (enough P Q es) = criterion P Q (whole_directions es)

abbrev all_right : List Example → Bool
all_right [] = true
all_right (e ∷ es) = right e && all_right es

-- Every example of the table follows from the definitions.
abbrev pub Worked : Type 0
Worked = all_right table ≡ true
