-- Which sum the refusal for a leftover sum tells.
use Rattle.std.specs.Prelude.{◌≡◌, ℕ, ◌+◌, ◌<◌, ◌≤◌, ◌↔◌, List, length, slice_index_or}
use Rattle.samples.specs.declared.kind.Kind.{Ghosts as Operations}
use Rattle.mojette.specs.Bins.{bins, start}
use Rattle.mojette.specs.Meaning.{no_record, Shape, bins_of}
use Rattle.mojette.specs.Refusals.{leftover_sum}
use Rattle.peeling.specs.declared.state.State.{State}
use Rattle.law.specs.Steps.{Tables, refused, finish}

module _ {S : Type 0} (K : Operations S) (shape : Shape) where
  -- Bin b of place i has the first position whose sum is not zero.
  pub record FirstLeft (sums : List S) (i b : ℕ) : Type 0 where
    pub place : i < length shape.records
    pub bin : b < bins shape.P shape.Q (slice_index_or shape.records i no_record).direction
    pub here : ¬ (slice_index_or sums (start shape.P shape.Q shape.records i + b) K.zero ≡ K.zero)
    pub earlier : (x : ℕ) → x < start shape.P shape.Q shape.records i + b → slice_index_or sums x K.zero ≡ K.zero

  -- Finish refuses by 15 and tells a place and a bin exactly where the sums are long enough, no pixel is missing, no grant is out, and
  -- there the first sum is left over.
  abbrev pub TellsLeft : Type 0
  TellsLeft =
      (s : State) (t : Tables S) (i b : ℕ) → ((finish K shape s t).answer ≡ refused (leftover_sum i b))
      ↔ ((bins_of shape ≤ length t.sums) × (s.left ≡ 0) × (s.out ≡ 0) × FirstLeft t.sums i b)
