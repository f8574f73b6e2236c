use Rattle.peeling.proofs.peeling_law.Goals as goal
use Rattle.peeling.proofs.Outcome.{peeling_law}

pub returns : goal.returns
returns g c = peeling_law g.K.Kind
