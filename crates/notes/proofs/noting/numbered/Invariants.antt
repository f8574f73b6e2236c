use Rattle.std.proofs.Common.{◌≡◌, ℕ, ◌<◌, length, get_or}
use Rattle.mojette.specs.Bounds.{most_pixels}
use Rattle.notes.specs.Notes.{note_of_cell}
use Rattle.notes.specs.Words.{note_zero}
use Rattle.notes.proofs.noting.numbered.Given as goal

abbrev pub invariant-loop-c : goal.invariant-loop-c
invariant-loop-c l = record {
  long : length l.tile ≡ most_pixels;
  each : (k : ℕ) → k < l.c → get_or l.tile k note_zero ≡ note_of_cell k;
}
