-- Counting the pixels of all bins, one bin after another.
use Rattle.std.specs.Prelude.{◌≡◌, ℕ, ◌+◌, ◌*◌, ◌<◌, ◌≤◌, Bool, cond, ◌&&◌, List, length, Some, None, Option, nat_lt, slice_index}
use Rattle.mojette.specs.Bins.{bins, in_bin, whole}
use Rattle.mojette.specs.Bounds.{most_side}
use Rattle.mojette.specs.Meaning.{Shape, pixels_of, bins_of}
use Rattle.mojette.specs.Refusals.{Refusal, short_table}
use Rattle.peeling.specs.Counting.{number}
use Rattle.peeling.specs.Steps.{filled}
use Rattle.law.specs.Positions.{incidence}
use Rattle.plan.specs.declared.places.Place.{Place}
use Rattle.plan.specs.Laid.{direction_of, record_of}
use Rattle.walk.specs.Lines.{OnTile}

-- Counts too short for the bins of a shape.
abbrev pub too_short : Shape → List ℕ → Bool
too_short s counts = nat_lt (length counts) (bins_of s)

-- how many pixels lie at each position
abbrev pub counted : Shape → List ℕ → List ℕ
counted s counts = filled (bins_of s) (λ x. number (pixels_of s) (λ c. (incidence s).lies c x)) counts

-- the refusal, if the counts are too short, and the counts afterwards
abbrev pub counting_refused : Shape → List ℕ → Option Refusal
counting_refused s counts = cond (too_short s counts) (Some (short_table 4)) None

abbrev pub counts_after : Shape → List ℕ → List ℕ
counts_after s counts = cond (too_short s counts) counts (counted s counts)

-- The count of each bin is at most a side: a bin has one pixel of each row at most, or those of one row.
abbrev pub FewPixels : Shape → List ℕ → Type 0
FewPixels s counts = (b : ℕ) → b < bins_of s → slice_index counts b ≤ most_side

-- A place of a tile of P by Q, with all its positions below n.
pub record LaidWithin (P Q : ℕ) (x : Place) (n : ℕ) : Type 0 where
  pub line : OnTile P Q x.q x.slope 0
  pub bins_are : x.bins ≡ bins P Q (direction_of x)
  pub inside : x.start + x.bins ≤ n

-- how many pixels bin b of a place has, if it is whole
abbrev pub pixels_of_bin : ℕ → ℕ → Place → ℕ → ℕ
pixels_of_bin P Q x b = number (P * Q) (λ c. whole (record_of x) && in_bin P Q (direction_of x) c b)
