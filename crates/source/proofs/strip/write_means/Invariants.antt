use Rattle.std.proofs.Common.{◌≡◌, ℕ, ◌<◌, get_or}
use Rattle.source.specs.Strips.{mean_at}
use Rattle.source.proofs.strip.write_means.Given as goal

abbrev pub invariant-loop-b : goal.invariant-loop-b
invariant-loop-b g l = (k : ℕ) → k < l.b → get_or l.out k 0 ≡ mean_at (g.S.Source.meaning l.source) l.place k
