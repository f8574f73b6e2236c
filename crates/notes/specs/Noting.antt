-- The notes of a tile's cells, and of the bins of a place.
use Rattle.std.specs.Prelude.{◌≡◌, ℕ, ◌*◌, ◌<◌, ◌≤◌, cond, ◌&&◌, List, length, slice_index_or}
use Rattle.samples.specs.Sums.{sum_below}
use Rattle.mojette.specs.Bins.{in_bin, whole}
use Rattle.mojette.specs.Bounds.{most_pixels}
use Rattle.plan.specs.declared.places.Place.{Place}
use Rattle.plan.specs.Laid.{direction_of, record_of}
use Rattle.notes.specs.declared.note.Note.{Note}
use Rattle.notes.specs.Words.{note_zero}
use Rattle.notes.specs.Notes.{notes, note_of_cell}

-- A tile of the most cells, each with its own note as its sample.
pub record Numbered (tile : List Note) : Type 0 where
  pub long : most_pixels ≤ length tile
  pub each : (c : ℕ) → c < most_pixels → slice_index_or tile c note_zero ≡ note_of_cell c

-- the note of bin b of a place, if it is whole
abbrev pub note_of_place : ℕ → ℕ → Place → ℕ → Note
note_of_place P Q x b = sum_below notes (P * Q) (λ c. cond (whole (record_of x) && in_bin P Q (direction_of x) c b) (note_of_cell c) note_zero)
