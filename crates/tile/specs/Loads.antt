-- What is written for a bin.
use Rattle.std.specs.Prelude.{ℕ, cond, slice_index_or}
use Rattle.samples.specs.declared.kind.Kind.{Ghosts as Operations}
use Rattle.mojette.specs.Bins.{whole}
use Rattle.mojette.specs.Meaning.{Meaning}
use Rattle.source.specs.Questions.{place_at}

-- bin b of place i: the source's sum, or zero where the place is lost
abbrev pub bin_value : {S : Type 0} → Operations S → Meaning S → ℕ → ℕ → S
bin_value K m i b = cond (whole (place_at m i).entry) (slice_index_or (place_at m i).sums b K.zero) K.zero
