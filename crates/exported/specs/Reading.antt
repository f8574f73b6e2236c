-- What reading a bracket file of sum words answers, and what it leaves.
use Rattle.std.specs.Prelude.{◌≡◌, ℕ, zero, suc, cond, List, ◌++◌, length, drop, nat_lt}
use Rattle.samples.specs.declared.words.SumWord.{SumWord}
use Rattle.samples.specs.contracts.codes.SumWordCoded.TheImpl.{ghosts as sum_codes}
use Rattle.samples.specs.contracts.impls.SumWordKind.TheImpl.{ghosts as sum_operations}
use Rattle.mojette.specs.declared.direction.Record.{Record}
use Rattle.mojette.specs.Faults.{Outcome, served, refuses}
use Rattle.mojette.specs.Meaning.{Meaning, shape_of, bins_of}
use Rattle.mojette.specs.Refusals.{short_table, short_output}
use Rattle.law.specs.Steps.{with_place}
use Rattle.source.specs.declared.types.Sizes.{Sizes}
use Rattle.source.specs.Questions.{asked_sizes, place_at}
use Rattle.source.specs.Racks.{racking}
use Rattle.format.specs.Format.{read_file}
use Rattle.bracket.specs.Files.{asked_file}

-- what a text means as a file of sum words; else where and why it is none
abbrev pub text_meaning : List ℕ → Outcome (Meaning SumWord)
text_meaning t = asked_file (read_file sum_codes t)

-- an answer, with what the sizes and the records hold then
pub record Described : Type 0 where
  pub answer : Outcome ℕ
  pub sizes : Sizes
  pub records : List Record

-- The sizes, and the records of the places in the first cells; the answer is the number of places. A refusal leaves all as it was.
abbrev pub describing : Outcome (Meaning SumWord) → Sizes → List Record → Described
describing (refuses r) sizes records = record { answer = refuses r; sizes = sizes; records = records }
describing (served m) sizes records =
    cond (nat_lt (length records) (length m.places))
    (record { answer = refuses (short_output (length m.places)); sizes = sizes; records = records })
    (record { answer = served (length m.places); sizes = asked_sizes m; records = (shape_of m).records ++ drop (length m.places) records })

-- the first n places in the sums, each at its positions, with zeros for a lost one
abbrev pub laid : Meaning SumWord → ℕ → List SumWord → List SumWord
laid m zero sums = sums
laid m (suc n) sums = with_place sum_operations (shape_of m) (place_at m n) n (laid m n sums)

-- an answer, with what the sums hold then
pub record Loaded : Type 0 where
  pub answer : Outcome ℕ
  pub sums : List SumWord

-- All places in the first cells; the answer is T. A refusal leaves all as it was.
abbrev pub loading : Outcome (Meaning SumWord) → List SumWord → Loaded
loading (refuses r) sums = record { answer = refuses r; sums = sums }
loading (served m) sums =
    cond (nat_lt (length sums) (bins_of (shape_of m)))
    (record { answer = refuses (short_table 3); sums = sums })
    (record { answer = served (bins_of (shape_of m)); sums = laid m (length m.places) sums })

-- A rack of the file's sizes and records and this run means what the file means.
abbrev pub MeansTheFile : Outcome (Meaning SumWord) → List SumWord → Type 0
MeansTheFile (served m) run = racking m.P m.Q (shape_of m).records run ≡ served m
MeansTheFile (refuses r) run = ⊥
