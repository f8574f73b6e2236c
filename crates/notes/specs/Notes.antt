-- Notes: what a bin keeps of its missing pixels, so that the last of them is known without a search.
use Rattle.std.specs.Prelude.{◌≡◌, ℕ, ◌+◌, ◌*◌, ◌/◌, ◌%◌, ◌^◌, ◌<◌, Bool, cond, List, slice_index_or}
use Rattle.samples.specs.declared.kind.Kind.{Ghosts as Operations}
use Rattle.samples.specs.Sums.{sum_below}
use Rattle.mojette.specs.Meaning.{Shape, pixels_of, bins_of}
use Rattle.peeling.specs.Steps.{filled}
use Rattle.notes.specs.declared.note.Note.{Note}
use Rattle.notes.specs.Missing.{Missing, all_missing}
use Rattle.notes.specs.Words.{note_of, note_plus, note_inverse, note_zero, note_spark, note_equal, note_laws}

-- notes as samples
abbrev pub notes : Operations Note
notes = record { plus = note_plus; inverse = note_inverse; zero = note_zero; spark = note_spark; equal = note_equal; laws = note_laws }

-- the note of the pixel in cell c
abbrev pub note_of_cell : ℕ → Note
note_of_cell c = note_of (c * 2 ^ 13 + 1)

-- how many missing pixels a note stands for
abbrev pub pixels_noted : Note → ℕ
pixels_noted x = x.value % 2 ^ 13

-- the cell, where it stands for one
abbrev pub cell_noted : Note → ℕ
cell_noted x = x.value / 2 ^ 13

-- the note of the pixels that pass a test
abbrev pub note_of_those : Shape → (ℕ → Bool) → Note
note_of_those s test = sum_below notes (pixels_of s) (λ c. cond (test c) (note_of_cell c) note_zero)

-- the note of a bin of which all pixels are missing
abbrev pub note_of_bin : Shape → ℕ → Note
note_of_bin s b = note_of_those s (all_missing s b)

-- Each bin has the note of its missing pixels.
abbrev pub Noted : Shape → Missing → List Note → Type 0
Noted s m xs = (b : ℕ) → b < bins_of s → slice_index_or xs b note_zero ≡ note_of_those s (m b)

-- the counts that notes tell, and those beyond the bins as they were
abbrev pub counts_told : Shape → List Note → List ℕ → List ℕ
counts_told s xs counts = filled (bins_of s) (λ b. pixels_noted (slice_index_or xs b note_zero)) counts
