use Rattle.std.proofs.Common.{◌≡◌, map, take}
use Rattle.bracket.specs.Files.{file_meaning}
use Rattle.exported.proofs.reading.write_records.Given as goal

-- The records so far are those of the meaning.
abbrev pub invariant-loop-i : goal.invariant-loop-i
invariant-loop-i l = take l.i l.records ≡ map (λ x. x.entry) (take l.i (file_meaning l.file).places)
