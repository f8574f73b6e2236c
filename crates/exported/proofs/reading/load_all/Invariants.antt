use Rattle.std.proofs.Common.{◌≡◌}
use Rattle.bracket.specs.Files.{file_meaning}
use Rattle.tile.specs.Worlds.{IsStillLent}
use Rattle.exported.specs.Reading.{laid}
use Rattle.exported.proofs.reading.load_all.Given as goal

-- So many places are loaded, into the caller's own sums.
abbrev pub invariant-loop : goal.invariant-loop
invariant-loop l = (l.tile ≡ l.counter) × (l.tables.sums.now ≡ laid (file_meaning l.file) l.counter l.initial.tables.sums.now) × IsStillLent l.initial.tables l.tables
