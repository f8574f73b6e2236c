use Rattle.tile.proofs.Living.{calls_live}
use Rattle.tile.proofs.lives.calls_live.Goals as goal

pub returns : goal.returns
returns g c = calls_live g.K.Kind
