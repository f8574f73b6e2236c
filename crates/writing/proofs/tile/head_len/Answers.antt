use Rattle.std.proofs.Common.{arith}
use Rattle.writing.proofs.OfTile.{length-head}
use Rattle.writing.proofs.tile.head_len.Goals as goal

pub returns-clause-value : goal.returns-clause-value
returns-clause-value c = omega (arith, length-head c.args.word.now c.args.name.now c.args.size.columns c.args.size.rows)
