-- The Dirac Mojette transform of a tile, over the operations of any kind of sample.
use Rattle.std.specs.Prelude.{ℕ, ◌*◌, ◌/◌, ◌%◌, cond, List, map, ℤ, slice_index_or}
use Rattle.std.specs.List.{range_with_len}
use Rattle.samples.specs.declared.kind.Kind.{Ghosts as Operations}
use Rattle.samples.specs.Sums.{sum_below}
use Rattle.mojette.specs.declared.direction.Direction.{Direction}
use Rattle.mojette.specs.Directions.{equal}
use Rattle.mojette.specs.Bins.{raw, raw_of, bins}

module _ {S : Type 0} (K : Operations S) where
  -- the sample of the pixel in cell c if its raw number is r, else zero
  abbrev pub sample_at : ℕ → List S → Direction → ℤ → ℕ → S
  sample_at P tile d r c = cond (equal (raw d (c % P) (c / P)) r) (slice_index_or tile c K.zero) K.zero

  -- the sum of the samples of all pixels with the raw number r
  abbrev pub raw_sum : ℕ → ℕ → List S → Direction → ℤ → S
  raw_sum P Q tile d r = sum_below K (P * Q) (sample_at P tile d r)

  -- the sum of bin b
  abbrev pub bin_sum : ℕ → ℕ → List S → Direction → ℕ → S
  bin_sum P Q tile d b = raw_sum P Q tile d (raw_of P Q d b)

  -- the sums of all bins
  abbrev pub projection : ℕ → ℕ → List S → Direction → List S
  projection P Q tile d = map (bin_sum P Q tile d) (range_with_len 0 (bins P Q d))
