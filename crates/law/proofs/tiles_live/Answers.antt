use Rattle.law.proofs.tiles_live.Goals as goal
use Rattle.law.proofs.Worked.{worked}

pub returns : goal.returns
returns c = worked
