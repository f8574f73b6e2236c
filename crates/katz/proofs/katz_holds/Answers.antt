use Rattle.katz.proofs.Katz.{katz}
use Rattle.katz.proofs.Tested.{tested}
use Rattle.katz.proofs.katz_holds.Goals as goal

pub returns : goal.returns
returns g c = record { ghosts = katz g.K.Kind; test = tested }
