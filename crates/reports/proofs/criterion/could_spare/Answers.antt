use Rattle.std.proofs.Common.{◌≡◌, ap, ◌∙◌, arith}
use Rattle.std.specs.Prelude.{slice_get}
use Rattle.mojette.specs.Directions.{columns, rows}
use Rattle.katz.specs.Sets.{enough}
use Rattle.plan.specs.Criteria.{whole_of}
use Rattle.plan.specs.Shapes.{shape, places_of}
use Rattle.plan.proofs.Reaching.{columns_total, rows_total}
use Rattle.reports.specs.Spares.{shape_without}
use Rattle.reports.proofs.OfSpares.{total_without, part_columns, part_rows, by_columns, by_rows}
use Rattle.reports.proofs.criterion.could_spare.Goals as goal

pub returns-then-columns : goal.returns-then-columns
returns-then-columns c =
    let plan = c.args.plan.now in
    let ds = whole_of (shape_without c.args.i (shape plan)) in
    let part = slice_get (places_of plan) c.args.i in
    let across = ap (λ r. r.0) c.part_of-across.ensures in
    let reach = ap (λ r. r.columns) c.criterion-criterion.ensures.value in
    let e : c.saturating_sub-columns.result ≡ columns ds =
    omega (arith, c.saturating_sub-columns.ensures, across, reach, part_columns part, total_without columns_total (places_of plan) c.args.i) in
    by_columns c.columns.result plan.size.rows c.saturating_sub-columns.result ds e c.if-columns.true ∙ ap (λ P. enough P plan.size.rows ds) c.columns.ensures

pub returns-else-columns : goal.returns-else-columns
returns-else-columns c =
    let plan = c.args.plan.now in
    let ds = whole_of (shape_without c.args.i (shape plan)) in
    let part = slice_get (places_of plan) c.args.i in
    let across = ap (λ r. r.0) c.part_of-across.ensures in
    let down = ap (λ r. r.1) c.part_of-across.ensures in
    let reach = c.criterion-criterion.ensures.value in
    let e : c.saturating_sub-columns.result ≡ columns ds =
    omega (arith, c.saturating_sub-columns.ensures, across, ap (λ r. r.columns) reach, part_columns part, total_without columns_total (places_of plan) c.args.i) in
    let f : c.saturating_sub-rows.result ≡ rows ds =
    omega (arith, c.saturating_sub-rows.ensures, down, ap (λ r. r.rows) reach, part_rows part, total_without rows_total (places_of plan) c.args.i) in
    by_rows plan.size.columns c.rows.result c.saturating_sub-columns.result c.saturating_sub-rows.result ds e f (omega (arith, c.columns.ensures, c.if-columns.false)) ∙ ap (λ Q. enough plan.size.columns Q ds) c.rows.ensures
