-- What is told beside a listing, and of a text by itself.
use Rattle.std.specs.Prelude.{◌≡◌, ℕ, List, [], ◌∷◌, ◌++◌, length, decimal, codes as text, Some, None, Option}
use Rattle.std.specs.Option.{option_and_then}
use Rattle.mojette.specs.declared.direction.Record.{Record}
use Rattle.mojette.specs.declared.fault.Fault.{Fault}
use Rattle.mojette.specs.declared.fault.Fault.TheVariants.{NoFile}
use Rattle.mojette.specs.Faults.{served, refuses, refusal_of}
use Rattle.mojette.specs.Meaning.{Shape}
use Rattle.mojette.specs.Refusals.{Refusal}
use Rattle.plan.specs.declared.plan.Plan.{Plan}
use Rattle.plan.specs.Shapes.{shape, places_of}
use Rattle.reports.specs.Faults.{fault_told}
use Rattle.reports.specs.Listings.{refusal_read}
use Rattle.reports.specs.Marks.{marked_text}
use Rattle.reports.specs.Sentences.{sentence_among}
use Rattle.reports.specs.Shapes.{shape_told}
use Rattle.reports.specs.Spares.{ghost_words}

-- the sentence of a fault, with a line end
abbrev pub sentence_line : List Record → Fault → List ℕ
sentence_line es e = sentence_among es e ++ 10 ∷ []

-- the wrong line of a text that is no file, with its mark
abbrev pub mark_under : List ℕ → Fault → List ℕ
mark_under t (NoFile f) = marked_text t f.text.byte
mark_under t e = []

-- what is told of a file
abbrev pub lawful_words : Shape → List ℕ
lawful_words s =
    (text "a lawful file: " ++ decimal s.P ++ text " columns") ++ (text ", " ++ decimal s.Q ++ text " rows, " ++ decimal (length s.records) ++ text " places" ++ 10 ∷ [])

-- What is told of a text: what it is the file of; or why it is no file, with the wrong line and a mark under the wrong token.
pub data Explains (t : List ℕ) : List ℕ → Type 0 where
  lawful : (s : Shape) → shape_told t ≡ served s → Explains t (lawful_words s)
  wrong : (e : Fault) → shape_told t ≡ refuses (refusal_of e) → Explains t (sentence_line [] e ++ mark_under t e)

-- the fault that a listing tells, if it tells one
abbrev pub fault_listed : List ℕ → Option Fault
fault_listed listing = option_and_then fault_told (refusal_read listing)

-- What is told beside the listing of a text.
pub data Remarks (t listing : List ℕ) : List ℕ → Type 0 where
  of_refusal : (e : Fault) → fault_listed listing ≡ Some e → Remarks t listing (sentence_line [] e)
  of_tile : (plan : Plan) → fault_listed listing ≡ None → shape_told t ≡ served (shape plan) → Remarks t listing (ghost_words (shape plan) (places_of plan))
  of_none : (r : Refusal) → fault_listed listing ≡ None → shape_told t ≡ refuses r → Remarks t listing []
