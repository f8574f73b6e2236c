use Rattle.law.proofs.tiles_live_further.Goals as goal
use Rattle.law.proofs.Worked.{worked_further}

pub returns : goal.returns
returns c = worked_further
