use Rattle.std.proofs.Common.{Ok, Err, ap, ◌∙◌, sym, subst}
use Rattle.peeling.specs.Steps.{taken, take_answers}
use Rattle.plan.specs.Shapes.{shape}
use Rattle.law.specs.Steps.{world_of}
use Rattle.tile.specs.Ring.{Fronts}
use Rattle.tile.specs.Worlds.{told}
use Rattle.tile.proofs.Following.{told_long, turn_rests, turn_goes}
use Rattle.tile.proofs.alone.turn.Goals as goal

pub returns-in-Err-clause-world : goal.returns-in-Err-clause-world
returns-in-Err-clause-world g c =
    let plan = c.args.plan.now in
    let x = c.args.state.now in
    let queue = c.args.tables.now.queue.now in
    sym (turn_rests g.K.Kind (shape plan) (world_of x (told g.T.Tally (shape plan) c.args.tally.now c.args.tables.now))
    (told_long g.T.Tally plan c.args.tally.now c.args.tables.now c.requires.long) c.in-Err.field-0
    (subst (λ n. Fronts (take_answers n x queue) n (Err c.in-Err.field-0)) c.total-bins.ensures.value
    (subst (λ r. Fronts (take_answers c.total-bins.result x queue) c.total-bins.result r) c.in-Err.is c.first.ensures)))

pub returns-in-Ok-clause-world : goal.returns-in-Ok-clause-world
returns-in-Ok-clause-world g c =
    let plan = c.args.plan.now in
    let x = c.args.state.now in
    let queue = c.args.tables.now.queue.now in
    turn_goes g.K.Kind (shape plan) (world_of x (told g.T.Tally (shape plan) c.args.tally.now c.args.tables.now))
    (told_long g.T.Tally plan c.args.tally.now c.args.tables.now c.requires.long) c.in-Ok.at
    (subst (λ n. Fronts (take_answers n x queue) n (Ok c.in-Ok.at)) c.total-bins.ensures.value
    (subst (λ r. Fronts (take_answers c.total-bins.result x queue) c.total-bins.result r) c.in-Ok.is c.first.ensures))
    c.pass_first.new.state c.count_settled.new.state (c.pass_first.ensures ∙ ap (λ n. taken n x) c.total-bins.ensures.value)
    (world_of c.peel_bin-cell.new.state (told g.T.Tally (shape plan) c.peel_bin-cell.new.tally c.peel_bin-cell.new.tables))
    c.peel_bin-cell.ensures.world c.count_settled.ensures
