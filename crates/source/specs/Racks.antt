-- What a rack means, and what making one answers.
use Rattle.std.specs.Prelude.{ℕ, cond, List, [], ◌∷◌, length, take, drop, Ok, Err, Result, ◌==◌, nat_lt, slice_index_or}
use Rattle.mojette.specs.declared.direction.Record.{Record}
use Rattle.mojette.specs.declared.fault.Fault.{Fault}
use Rattle.mojette.specs.Bins.{bins, whole, all_bins}
use Rattle.mojette.specs.Faults.{Outcome, served, refuses, refusal_of}
use Rattle.mojette.specs.Meaning.{Place, Meaning, verdict}
use Rattle.mojette.specs.Refusals.{no_such_place, wrong_run_length}
use Rattle.plan.specs.Shapes.{shape}
use Rattle.source.specs.declared.rack.Rack.{Rack}
use Rattle.source.specs.Questions.{no_record, checked}

-- a place with its part of the run, which counts only where the place is whole
abbrev pub placed : {S : Type 0} → Record → List S → Place S
placed e part = record { entry = e; sums = cond (whole e) part [] }

-- the run cut into the places of the records, in order
abbrev pub cut : {S : Type 0} → ℕ → ℕ → List Record → List S → List (Place S)
cut P Q [] run = []
cut P Q (e ∷ es) run = placed e (take (bins P Q e.direction) run) ∷ cut P Q es (drop (bins P Q e.direction) run)

abbrev pub rack_meaning : {S : Type 0} → ℕ → ℕ → List Record → List S → Meaning S
rack_meaning P Q es run = record { P = P; Q = Q; places = cut P Q es run }

-- what a rack means, read off what it holds
abbrev pub meaning_of : {S : Type 0} → Rack S → Meaning S
meaning_of x = rack_meaning (shape x.plan).P (shape x.plan).Q x.records.now x.run.now

-- the record of place i
abbrev pub record_at : List Record → ℕ → Outcome Record
record_at es i = cond (nat_lt i (length es)) (served (slice_index_or es i no_record)) (refuses no_such_place)

-- the meaning of the rack that is made, or the first refusal: of the shape, then a run that is not T long
abbrev pub racking : {S : Type 0} → ℕ → ℕ → List Record → List S → Outcome (Meaning S)
racking P Q es run =
    checked (verdict (record { P = P; Q = Q; records = es }))
    (cond (length run == all_bins P Q es) (served (rack_meaning P Q es run)) (refuses (wrong_run_length (all_bins P Q es))))

abbrev pub made : {S : Type 0} → Result (Rack S) Fault → Outcome (Meaning S)
made (Ok x) = served (meaning_of x)
made (Err e) = refuses (refusal_of e)
