use Rattle.std.proofs.Common.{◌≡◌, ◌+◌, drop}
use Rattle.katz.specs.Made.{leftward}
use Rattle.plan.specs.Criteria.{whole_of}
use Rattle.plan.specs.Shapes.{shape}
use Rattle.plan.proofs.Reaching.{over, left_total}
use Rattle.plan.proofs.plan.Plan.spark_column.Given as goal

abbrev pub invariant-loop-place : goal.invariant-loop-place
invariant-loop-place l = l.column + over left_total (drop l.place-index l.place-items) ≡ leftward (whole_of (shape l.self))
