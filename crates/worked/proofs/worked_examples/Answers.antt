use Rattle.std.proofs.Common.{refl}
use Rattle.samples.specs.Sums.{sum_below}
use Rattle.worked.proofs.worked_examples.Goals as goal

pub returns : goal.returns
unfolding sum_below
returns c = refl
