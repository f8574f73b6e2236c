-- The bounds of the bench, each named once.
use Rattle.std.specs.Prelude.{ℕ, ◌+◌, ◌-◌, ◌*◌, ◌≤◌}

-- the most columns, and the most rows, of a tile
abbrev pub most_side : ℕ
most_side = 64

-- the most pixels of a tile
abbrev pub most_pixels : ℕ
most_pixels = most_side * most_side

-- the most places of a plan
abbrev pub most_places : ℕ
most_places = 16

-- the most of |p|, and of q
abbrev pub most_step : ℕ
most_step = 7

-- The most bins of a direction, 820. A lawful one has no |p| and q that are both the most, since these have a common divisor.
abbrev pub most_bins : ℕ
most_bins = (most_side - 1) * (2 * most_step - 1) + 1

-- the most positions of a tile, 13,120: the bins of all places of its plan
abbrev pub most_positions : ℕ
most_positions = most_places * most_bins

pub record OneTo (bound n : ℕ) : Type 0 where
  pub least : 1 ≤ n
  pub most : n ≤ bound
