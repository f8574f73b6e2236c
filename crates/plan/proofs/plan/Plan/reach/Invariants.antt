use Rattle.std.proofs.Common.{◌≡◌, ◌+◌, drop}
use Rattle.mojette.specs.Directions.{columns, rows}
use Rattle.plan.specs.Criteria.{whole_of}
use Rattle.plan.specs.Shapes.{shape}
use Rattle.plan.proofs.Reaching.{over, columns_total, rows_total}
use Rattle.plan.proofs.plan.Plan.reach.Given as goal

abbrev pub invariant-loop-place : goal.invariant-loop-place
invariant-loop-place l =
    (l.columns + over columns_total (drop l.place-index l.place-items) ≡ columns (whole_of (shape l.self)))
    × (l.rows + over rows_total (drop l.place-index l.place-items) ≡ rows (whole_of (shape l.self)))
