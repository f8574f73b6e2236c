-- Sums that are being added up.
use Rattle.std.specs.Prelude.{◌≡◌, ℕ, ◌<◌, List, slice_index_or}
use Rattle.samples.specs.declared.kind.Kind.{Ghosts as Operations}
use Rattle.samples.specs.Sums.{sum_below}
use Rattle.mojette.specs.declared.direction.Direction.{Direction}
use Rattle.mojette.specs.Bins.{bins, raw_of}
use Rattle.mojette.specs.Transform.{sample_at}

-- Each of the first B cells holds the sum of the samples of its pixels among the first n cells of the picture.
abbrev pub SumUpTo : {S : Type 0} → Operations S → ℕ → ℕ → Direction → List S → ℕ → List S → Type 0
SumUpTo K P Q d picture n sums =
    (b : ℕ) → b < bins P Q d → slice_index_or sums b K.zero ≡ sum_below K n (sample_at K P picture d (raw_of P Q d b))
