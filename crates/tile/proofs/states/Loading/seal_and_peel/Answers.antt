use Rattle.std.proofs.Common.{refl, rules}
use Rattle.plan.specs.Shapes.{shape}
use Rattle.tile.specs.Worlds.{contents}
use Rattle.tile.proofs.Ghosted.{seal_refused, seal_served}
use Rattle.tile.proofs.states.Loading.seal_and_peel.Goals as goal

pub returns-in_err-accept-clause-served : goal.returns-in_err-accept-clause-served
returns-in_err-accept-clause-served g c =
    let r = seal_refused g.K.Kind (shape c.args.plan.now) c.args.self (contents c.args.tables.now) (contents c.accept.new.tables) c.in_err-accept.field-0.0 c.in_err-accept.ensures.accepts in
    search (rules, r.unserved)

pub returns-in_err-accept-clause-back : goal.returns-in_err-accept-clause-back
returns-in_err-accept-clause-back g c =
    let r = seal_refused g.K.Kind (shape c.args.plan.now) c.args.self (contents c.args.tables.now) (contents c.accept.new.tables) c.in_err-accept.field-0.0 c.in_err-accept.ensures.accepts in
    search (rules, r.back)

pub returns-in_err-accept-clause-unchanged : goal.returns-in_err-accept-clause-unchanged
returns-in_err-accept-clause-unchanged g c =
    let r = seal_refused g.K.Kind (shape c.args.plan.now) c.args.self (contents c.args.tables.now) (contents c.accept.new.tables) c.in_err-accept.field-0.0 c.in_err-accept.ensures.accepts in
    search (rules, r.unchanged)

pub returns-in_err-accept-clause-ghosted : goal.returns-in_err-accept-clause-ghosted
returns-in_err-accept-clause-ghosted g c =
    let r = seal_refused g.K.Kind (shape c.args.plan.now) c.args.self (contents c.args.tables.now) (contents c.accept.new.tables) c.in_err-accept.field-0.0 c.in_err-accept.ensures.accepts in
    search (rules, r.ghost)

pub returns-clause-served : goal.returns-clause-served
returns-clause-served g c =
    let a = c.in_ok-accept.ensures.accepts in
    let can = seal_served g.K.Kind (shape c.args.plan.now) c.args.self (contents c.args.tables.now) _ a.1 a.0 in
    (λ _. can, λ _. refl)
