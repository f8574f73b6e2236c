use Rattle.std.proofs.Common.{arith}
use Rattle.walk.proofs.Lying.{lies_wherever}
use Rattle.walk.proofs.lookups.bin_of.Goals as goal

pub returns-clause-lies : goal.returns-clause-lies
returns-clause-lies c = lies_wherever c.args.columns c.args.rows c.args.place.now c.args.pixel _ (grind arith)
