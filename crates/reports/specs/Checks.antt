-- What is told of a shape that is asked about.
use Rattle.std.specs.Prelude.{◌≡◌, ℕ, List, [], Some, None}
use Rattle.mojette.specs.declared.fault.Fault.{Fault}
use Rattle.mojette.specs.Faults.{refusal_of}
use Rattle.mojette.specs.Meaning.{Shape, verdict}
use Rattle.format.specs.Listing.{refusal_text}
use Rattle.reports.specs.Remarks.{sentence_line}
use Rattle.reports.specs.Spares.{criterion_text}

-- The listing and the sentence: of a lawful shape whether the criterion holds, and which places could be spared; of any other the refusal.
pub data Checks (s : Shape) : List ℕ → List ℕ → Type 0 where
  lawful : verdict s ≡ None → Checks s (criterion_text s) []
  refused : (e : Fault) → verdict s ≡ Some (refusal_of e) → Checks s (refusal_text (refusal_of e)) (sentence_line s.records e)
