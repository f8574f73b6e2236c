use Rattle.std.proofs.Common.{◌+◌, ◌≤◌, sym, ◌∙◌, arith, rules}
use Rattle.plan.proofs.Reaching.{left_total, over_whole, plan_most}
use Rattle.plan.proofs.plan.Plan.spark_column.Goals as goal

pub overflow_add-column : goal.overflow_add-column
overflow_add-column c =
    let xs = c.places-place-items.result.now in
    let more = over_whole left_total xs c.loop-place.place-index c.loop-place-test.true (sym c.is_whole.ensures ∙ c.if-is_whole.true) in
    let fits : c.loop-place.column + c.left-column.result ≤ 112 = omega (arith, c.loop-place.invariant, more, c.left-column.ensures, plan_most left_total c.args.self.now) in
    search rules
