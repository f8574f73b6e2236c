-- The answer that a source's meaning gives to each question.
use Rattle.std.specs.Prelude.{ℕ, cond, length, Some, None, Option, nat_lt, slice_index_or}
use Rattle.samples.specs.declared.kind.Kind.{Ghosts as Operations}
use Rattle.mojette.specs.declared.direction.Record.{Record}
use Rattle.mojette.specs.Bins.{bins, whole}
use Rattle.mojette.specs.Faults.{Outcome, served, refuses}
use Rattle.mojette.specs.Meaning.{Place, Meaning}
pub use Rattle.mojette.specs.Meaning.{no_record, no_place}
use Rattle.mojette.specs.Refusals.{Refusal, no_such_place, lost_place, no_such_bin}
use Rattle.source.specs.declared.types.Sizes.{Sizes}

abbrev pub place_at : {S : Type 0} → Meaning S → ℕ → Place S
place_at m i = slice_index_or m.places i no_place

abbrev pub bins_at : {S : Type 0} → Meaning S → ℕ → ℕ
bins_at m i = bins m.P m.Q (place_at m i).entry.direction

abbrev pub asked_sizes : {S : Type 0} → Meaning S → Sizes
asked_sizes m = record { columns = m.P; rows = m.Q; places = length m.places }

abbrev pub asked_place : {S : Type 0} → Meaning S → ℕ → Outcome Record
asked_place m i = cond (nat_lt i (length m.places)) (served (place_at m i).entry) (refuses no_such_place)

abbrev pub asked_bin : {S : Type 0} → Operations S → Meaning S → ℕ → ℕ → Outcome S
asked_bin K m i b =
    cond (nat_lt i (length m.places))
    (cond (whole (place_at m i).entry)
    (cond (nat_lt b (bins_at m i)) (served (slice_index_or (place_at m i).sums b K.zero)) (refuses no_such_bin))
    (refuses (lost_place (place_at m i).entry.cause)))
    (refuses no_such_place)

-- an answer that is given only where a check finds nothing to refuse
abbrev pub checked : {A : Type 0} → Option Refusal → Outcome A → Outcome A
checked None answer = answer
checked (Some r) answer = refuses r
