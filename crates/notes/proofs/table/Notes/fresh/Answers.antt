use Rattle.std.proofs.Common.{replicate, refl, ap}
use Rattle.mojette.specs.Bounds.{most_positions}
use Rattle.notes.specs.Words.{note_zero, note_same}
use Rattle.notes.proofs.table.Notes.fresh.Goals as goal

pub returns : goal.returns
returns c = ap (replicate most_positions) (note_same _ note_zero refl)
