use Rattle.std.proofs.Common.{◌≡◌, get_or}
use Rattle.peeling.specs.Steps.{filled}
use Rattle.notes.specs.Words.{note_zero}
use Rattle.notes.specs.Notes.{pixels_noted}
use Rattle.notes.specs.Telling.{notes_in}
use Rattle.notes.proofs.table.Notes.write_counts.Given as goal

abbrev pub invariant-loop-b : goal.invariant-loop-b
invariant-loop-b l = l.counts ≡ filled l.b (λ b. pixels_noted (get_or (notes_in l.self) b note_zero)) l.initial.counts
