use Rattle.std.proofs.Common.{◌≡◌, ℕ, ◌<◌, get_or}
use Rattle.walk.specs.Counts.{pixels_of_bin}
use Rattle.walk.specs.Passing.{Coming}
use Rattle.walk.proofs.counts.count_slanted.Given as goal

abbrev pub invariant-loop-b : goal.invariant-loop-b
invariant-loop-b l = record {
  begins : Coming l.fn.size.columns l.place.q 0 l.b l.begins;
  ends : Coming l.fn.size.columns l.place.q l.height l.b l.ends;
  counts : (k : ℕ) → k < l.b → get_or l.bins k 0 ≡ pixels_of_bin l.fn.size.columns l.fn.size.rows l.place k;
}
