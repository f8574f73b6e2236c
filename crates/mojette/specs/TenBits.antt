-- Sum words of ten bits never wrap: each sum of a tile of them is the plain sum of its numbers.
use Rattle.std.specs.Prelude.{◌≡◌, ℕ, ◌-◌, ◌*◌, ◌^◌, ◌<◌, ◌≤◌, true, cond, List, sum_by, slice_index_or}
use Rattle.std.specs.List.{range_with_len}
use Rattle.samples.specs.declared.words.SumWord.{SumWord}
use Rattle.samples.specs.Kinds.{sum_words}
use Rattle.samples.specs.Words.{sum_zero}
use Rattle.mojette.specs.declared.direction.Direction.{Direction}
use Rattle.mojette.specs.Bins.{in_bin}
use Rattle.mojette.specs.Bounds.{most_side}
use Rattle.mojette.specs.Directions.{lawful}
use Rattle.mojette.specs.Transform.{bin_sum}

-- the most that ten bits hold, 1,023
abbrev pub most_ten_bits : ℕ
most_ten_bits = 2 ^ 10 - 1

-- the number of the pixel in cell c
abbrev pub number_at : List SumWord → ℕ → ℕ
number_at tile c = (slice_index_or tile c sum_zero).value

-- the numbers of the pixels of bin b, added up as whole numbers
abbrev pub plain_sum : ℕ → ℕ → List SumWord → Direction → ℕ → ℕ
plain_sum P Q tile d b = sum_by (λ c. cond (in_bin P Q d c b) (number_at tile c) 0) (range_with_len 0 (P * Q))

-- A tile of at most 64 by 64 pixels, each below 1,024, and a lawful direction.
pub record TenBits (P Q : ℕ) (d : Direction) (tile : List SumWord) : Type 0 where
  pub columns : P ≤ most_side
  pub rows : Q ≤ most_side
  pub direction : lawful d ≡ true
  pub samples : (c : ℕ) → c < P * Q → number_at tile c ≤ most_ten_bits

-- In each bin the number of the sum is the plain sum, with nothing lost modulo 65,536; and it is at most 65,472.
pub record TenBitsNeverWrap : Type 0 where
  pub plain : (P Q : ℕ) (d : Direction) (tile : List SumWord) → TenBits P Q d tile → (b : ℕ) → (bin_sum sum_words P Q tile d b).value ≡ plain_sum P Q tile d b
  pub most : (P Q : ℕ) (d : Direction) (tile : List SumWord) → TenBits P Q d tile → (b : ℕ) → plain_sum P Q tile d b ≤ most_side * most_ten_bits
