-- What the program makes of a tile: one worker rebuilds it on clear tables.
use Rattle.std.specs.Prelude.{ℕ, replicate}
use Rattle.samples.specs.declared.kind.Kind.{Ghosts as Operations}
use Rattle.mojette.specs.Meaning.{Meaning}
use Rattle.law.specs.Steps.{Tables}
use Rattle.runs.specs.Rebuilding.{Answer}
use Rattle.runs.specs.Worker.{one_worker}

-- the most bytes of an input
abbrev pub most_bytes : ℕ
most_bytes = 65536

-- the most pixels and the most bins of a tile that the program has room for
abbrev pub program_pixels : ℕ
program_pixels = 4096

abbrev pub program_bins : ℕ
program_bins = 8192

-- the most bytes that the program has room for when it prints
abbrev pub most_output : ℕ
most_output = 65536

-- the program's tables before it rebuilds a tile
abbrev pub clear_tables : {S : Type 0} → Operations S → Tables S
clear_tables K = record {
  picture = replicate program_pixels K.zero;
  marks = replicate program_pixels 0;
  sums = replicate program_bins K.zero;
  counts = replicate program_bins 0;
  queue = replicate program_bins 0;
}

-- what the worker answers, and what the tables hold then
abbrev pub answered : {S : Type 0} → Operations S → Meaning S → Answer × Tables S
answered K m = one_worker K m (clear_tables K)
