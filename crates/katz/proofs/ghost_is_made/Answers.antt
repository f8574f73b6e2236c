use Rattle.katz.proofs.Made.{ghost_is_made}
use Rattle.katz.proofs.ghost_is_made.Goals as goal

pub returns : goal.returns
returns g c = ghost_is_made g.K.Kind
