use Rattle.mojette.specs.Faults.{refusal_of}
use Rattle.plan.specs.Shapes.{shape}
use Rattle.tile.specs.Worlds.{contents}
use Rattle.tile.proofs.Checks.{not_served_at}
use Rattle.tile.proofs.states.Peeling.settle.Goals as goal

pub returns-in-Err-clause-served : goal.returns-in-Err-clause-served
returns-in-Err-clause-served g c =
    rw (← c.grant.view_is)
    (not_served_at (shape c.args.plan.now) (contents c.args.tables.now) c.grant.inside.position (refusal_of c.in-Err.fault) c.in-Err.ensures)
