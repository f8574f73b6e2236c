use Rattle.std.proofs.Common.{rules}
use Rattle.plan.specs.Shapes.{shape}
use Rattle.tile.specs.Worlds.{contents}
use Rattle.tile.proofs.Ghosted.{seal_refused}
use Rattle.tile.proofs.states.Loading.seal.Goals as goal

pub returns-in_err-accept-clause-served : goal.returns-in_err-accept-clause-served
returns-in_err-accept-clause-served g c =
    let r = seal_refused g.K.Kind (shape c.args.plan.now) c.args.self (contents c.args.tables.now) (contents c.accept.new.tables) c.in_err-accept.field-0.0 c.in_err-accept.ensures.accepts in
    search (rules, r.unserved)

pub returns-in_err-accept-clause-unchanged : goal.returns-in_err-accept-clause-unchanged
returns-in_err-accept-clause-unchanged g c =
    let r = seal_refused g.K.Kind (shape c.args.plan.now) c.args.self (contents c.args.tables.now) (contents c.accept.new.tables) c.in_err-accept.field-0.0 c.in_err-accept.ensures.accepts in
    search (rules, r.unchanged)
