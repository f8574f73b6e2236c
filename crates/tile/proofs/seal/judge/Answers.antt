use Rattle.plan.specs.Shapes.{shape}
use Rattle.tile.proofs.Showing.{refuses_ghost}
use Rattle.tile.proofs.seal.judge.Goals as goal

pub returns-else-criterion : goal.returns-else-criterion
returns-else-criterion g c =
    refuses_ghost g.K.Kind (shape c.args.plan.now) c.args.picture.now c.requires c.show_ghost.new.picture
    c.in_ok-criterion.criterion c.in_ok-criterion.ensures.value c.if-criterion.false
