use Rattle.std.proofs.Common.{◌+◌, ◌-◌}
use Rattle.walk.specs.Walking.{On}
use Rattle.walk.proofs.Cells.{open_at}
use Rattle.walk.proofs.Walks.{Before}
use Rattle.walk.proofs.line.Line.lone.Given as goal

abbrev pub invariant-loop-lone : goal.invariant-loop-lone
invariant-loop-lone l = record {
  on : On l.self l.x l.y;
  known : Before l.self (open_at l.self l.marks) l.lone l.x l.y;
}

abbrev pub decreases-loop-lone : goal.decreases-loop-lone
decreases-loop-lone l = l.x + (l.self.size.rows - l.y)
