use Rattle.std.proofs.Common.{◌≡◌, ◌++◌, take}
use Rattle.std.specs.List.{flat_map}
use Rattle.reports.specs.Pgm.{sample_bytes}
use Rattle.reports.proofs.pgm.push_samples.Given as goal

abbrev pub invariant-loop-sample : goal.invariant-loop-sample
invariant-loop-sample l = l.out.items ≡ l.initial.out.items ++ flat_map sample_bytes (take l.sample-index l.samples)
