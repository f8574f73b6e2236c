use Rattle.std.proofs.Common.{◌+◌, ◌-◌}
use Rattle.walk.specs.Walking.{Corner}
use Rattle.walk.proofs.line.Line.first.Given as goal

abbrev pub invariant-loop-self : goal.invariant-loop-self
invariant-loop-self l = Corner l.self l.x l.y

abbrev pub decreases-loop-self : goal.decreases-loop-self
decreases-loop-self l = l.x + (l.self.size.rows - l.y)
