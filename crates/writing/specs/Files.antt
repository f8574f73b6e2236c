-- The text of a file by its lines, and what writing it answers and leaves.
use Rattle.std.specs.Prelude.{◌≡◌, ℕ, ◌<◌, List, [], ◌∷◌, ◌++◌, length, Some, None, codes as text, Option}
use Rattle.std.specs.List.{flat_map}
use Rattle.samples.specs.declared.coded.Coded.{Ghosts as Codes}
use Rattle.samples.specs.declared.kind.Kind.{Ghosts as Operations}
use Rattle.samples.specs.Reading.{code}
use Rattle.mojette.specs.Faults.{Outcome, refuses}
use Rattle.mojette.specs.Meaning.{Place, Meaning, shape_of, verdict}
use Rattle.mojette.specs.Refusals.{Refusal}
use Rattle.plan.specs.declared.places.Place.{Place as Laid}
use Rattle.plan.specs.declared.plan.Plan.{Plan}
use Rattle.plan.specs.Laid.{record_of}
use Rattle.plan.specs.Shapes.{shape}
use Rattle.source.specs.Questions.{place_at, bins_at}
use Rattle.format.specs.Texts.{bin_sums, held_text, dir_text, file_text}
use Rattle.writing.specs.Lines.{spaced}
use Rattle.writing.specs.Splices.{filling}

module _ {S : Type 0} (K : Operations S) (C : Codes S) (P Q : ℕ) where
  -- what follows the direction of a place
  abbrev pub held_end : Place S → List ℕ
  held_end x = text " (" ++ held_text K C P Q x (text "))" ++ (10 ∷ []))

  -- the line of a place
  abbrev pub place_line : Place S → List ℕ
  place_line x = text "(dir" ++ dir_text K C P Q x []

  -- the lines of some places
  abbrev pub place_lines : List (Place S) → List ℕ
  place_lines xs = flat_map place_line xs

-- A place of a plan is place i of a meaning.
pub record StandsFor {S : Type 0} (m : Meaning S) (i : ℕ) (y : Laid) : Type 0 where
  pub inside : i < length m.places
  pub entry : record_of y ≡ (place_at m i).entry
  pub bins : y.bins ≡ bins_at m i

-- The parts of a meaning's file.
module _ {S : Type 0} (K : Operations S) (C : Codes S) where
  module _ (m : Meaning S) where
    abbrev pub codes_at : ℕ → List ℕ
    codes_at i = spaced (code C) (bin_sums K m.P m.Q (place_at m i))

    abbrev pub held_at : ℕ → List ℕ
    held_at i = held_end K C m.P m.Q (place_at m i)

    abbrev pub line_at : ℕ → List ℕ
    line_at i = place_line K C m.P m.Q (place_at m i)

    abbrev pub all_lines : List ℕ
    all_lines = place_lines K C m.P m.Q m.places

  -- The line of a place has so many bytes, whatever its sums are.
  abbrev pub IsLineLength : Laid → ℕ → Type 0
  IsLineLength y n = (m : Meaning S) (i : ℕ) → StandsFor m i y → n ≡ length (line_at m i)

  -- The file of any source of this plan has so many bytes.
  abbrev pub IsFileLength : Plan → ℕ → Type 0
  IsFileLength plan n = (m : Meaning S) → shape plan ≡ shape_of m → n ≡ length (file_text K C m)

-- A call that writes a text where a check finds nothing to refuse.
abbrev pub unless : Option Refusal → List ℕ → List ℕ → Outcome ℕ × List ℕ
unless (Some r) text out = (refuses r, out)
unless None text out = filling text out

-- A call that writes the file of a meaning: it looks first whether the meaning is lawful.
abbrev pub file_filling : {S : Type 0} → Operations S → Codes S → Meaning S → List ℕ → Outcome ℕ × List ℕ
file_filling K C m out = unless (verdict (shape_of m)) (file_text K C m) out
