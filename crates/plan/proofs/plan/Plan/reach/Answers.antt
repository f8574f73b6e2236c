use Rattle.std.proofs.Common.{◌+◌, ◌≤◌, sym, ◌∙◌, arith, rules}
use Rattle.plan.specs.Laid.{place_at}
use Rattle.plan.proofs.Cells.{size_of}
use Rattle.plan.proofs.Reaching.{columns_total, rows_total, over_whole, over_lost, over_end, plan_most}
use Rattle.plan.proofs.plan.Plan.reach.Goals as goal
use Rattle.plan.proofs.plan.Plan.reach.Goals.{then-is_whole, else-is_whole}

pub overflow_add-columns : goal.overflow_add-columns
overflow_add-columns c =
    let xs = c.places-place-items.result.now in
    let i = c.loop-place.place-index in
    let x = place_at xs i in
    let fits : c.loop-place.columns + x.slope ≤ 112 =
    omega (arith, c.loop-place.invariant.0, over_whole columns_total xs i c.loop-place-test.true (sym c.is_whole.ensures ∙ c.if-is_whole.true), size_of x.leftward x.slope, plan_most columns_total c.args.self.now) in
    search rules

pub overflow_add-rows : goal.overflow_add-rows
overflow_add-rows c =
    let xs = c.places-place-items.result.now in
    let i = c.loop-place.place-index in
    let fits : c.loop-place.rows + (place_at xs i).q ≤ 112 =
    omega (arith, c.loop-place.invariant.1, over_whole rows_total xs i c.loop-place-test.true (sym c.is_whole.ensures ∙ c.if-is_whole.true), plan_most rows_total c.args.self.now) in
    search rules

pub loop-place-preserved : goal.loop-place-preserved
loop-place-preserved c =
    let xs = c.places-place-items.result.now in
    let i = c.loop-place.place-index in
    let x = place_at xs i in
    let l = c.loop-place-test.true in
    let inv = c.loop-place.invariant in
    elim c.if-is_whole.branch [
      | then-is_whole w ↦ (
        omega (arith, w.columns-is, inv.0, over_whole columns_total xs i l (sym c.is_whole.ensures ∙ w.if-is_whole.true), size_of x.leftward x.slope),
        omega (arith, w.rows-is, inv.1, over_whole rows_total xs i l (sym c.is_whole.ensures ∙ w.if-is_whole.true)),
      )
      | else-is_whole w ↦ (
        omega (arith, w.columns-is, inv.0, over_lost columns_total xs i l (sym c.is_whole.ensures ∙ w.if-is_whole.false)),
        omega (arith, w.rows-is, inv.1, over_lost rows_total xs i l (sym c.is_whole.ensures ∙ w.if-is_whole.false)),
      )
    ]

pub returns : goal.returns
returns c =
    let xs = c.places-place-items.result.now in
    let i = c.loop-place.place-index in
    let inv = c.loop-place.invariant in
    record {
      columns = omega (arith, inv.0, over_end columns_total xs i c.loop-place-test.false);
      rows = omega (arith, inv.1, over_end rows_total xs i c.loop-place-test.false);
    }
