-- What the notes of all bins tell.
use Rattle.std.specs.Prelude.{◌≡◌, ℕ, cond, List, length}
use Rattle.std.proofs.Common.{ap, ◌∙◌}
use Rattle.samples.proofs.Sums.{sum_same}
use Rattle.mojette.specs.Meaning.{Shape, pixels_of, bins_of}
use Rattle.peeling.proofs.Loops.{length-filled}
use Rattle.notes.specs.declared.note.Note.{Note}
use Rattle.notes.specs.declared.table.Notes.{Notes}
use Rattle.notes.specs.Missing.{Missing, Alike}
use Rattle.notes.specs.Words.{note_zero}
use Rattle.notes.specs.Notes.{notes, note_of_cell, Noted, counts_told}

-- for those who cannot name their field
abbrev pub notes_in : Notes → List Note
notes_in x = x.notes

pub noted_alike : (s : Shape) (m n : Missing) (xs : List Note) → Alike s m n → Noted s m xs → Noted s n xs
noted_alike s m n xs same known b l = known b l ∙ sum_same notes (pixels_of s) _ _ (λ c k. ap (λ t. cond t (note_of_cell c) note_zero) (same b c l k))

pub told_long : (s : Shape) (xs : List Note) (counts : List ℕ) → length (counts_told s xs counts) ≡ length counts
told_long s xs counts = length-filled (bins_of s) _ counts
