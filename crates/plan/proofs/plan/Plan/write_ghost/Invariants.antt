use Rattle.plan.specs.Shapes.{places_of}
use Rattle.plan.proofs.Making.{MadeOf}
use Rattle.plan.proofs.plan.Plan.write_ghost.Given as goal

abbrev pub invariant-loop-place : goal.invariant-loop-place
invariant-loop-place g l =
    MadeOf g.K.Kind l.self.size.columns l.self.size.rows l.place-items (places_of l.self) l.initial.picture l.place-index l.picture
