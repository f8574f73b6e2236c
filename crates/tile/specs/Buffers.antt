-- What buffers hold when they are made.
use Rattle.std.specs.Prelude.{replicate}
use Rattle.samples.specs.declared.kind.Kind.{Ghosts as Operations}
use Rattle.mojette.specs.Meaning.{Shape, pixels_of, bins_of}
use Rattle.law.specs.Steps.{Tables}

-- tables of exactly the lengths that a plan of this shape needs, all zero
abbrev pub zero_tables : {S : Type 0} → Operations S → Shape → Tables S
zero_tables K shape = record {
  picture = replicate (pixels_of shape) K.zero;
  marks = replicate (pixels_of shape) 0;
  sums = replicate (bins_of shape) K.zero;
  counts = replicate (bins_of shape) 0;
  queue = replicate (bins_of shape) 0;
}
