use Rattle.std.proofs.Common.{arith}
use Rattle.mojette.specs.Meaning.{bins_of}
use Rattle.plan.specs.Shapes.{shape}
use Rattle.law.specs.Steps.{world_of}
use Rattle.tile.specs.Worlds.{told}
use Rattle.tile.proofs.Following.{stops}
use Rattle.tile.proofs.alone.peel_all.Goals as goal

pub returns-then-not-turn-clause-world : goal.returns-then-not-turn-clause-world
returns-then-not-turn-clause-world g c =
    let s = shape c.args.plan.now in
    stops g.K.Kind s c.loop.counter (bins_of s) (world_of c.args.state.now (told g.T.Tally s c.args.tally.now c.args.tables.now))
    (world_of c.loop.state (told g.T.Tally s c.loop.tally c.loop.tables))
    (world_of c.turn.new.state (told g.T.Tally s c.turn.new.tally c.turn.new.tables))
    c.loop.invariant.world c.turn.ensures.world (c.turn.ensures.rests c.if-not-turn.true) (omega (arith, c.loop-test.true, c.total-end.ensures.value))
