use Rattle.std.proofs.Common.{◌≡◌, ◌+◌, ◌-◌, ◌<◌, ◌≤◌, length, ap, ◌∙◌, arith, rules}
use Rattle.mojette.specs.Bounds.{most_positions}
use Rattle.law.specs.Positions.{place_at, bin_at}
use Rattle.plan.specs.Laid.{records_of}
use Rattle.plan.specs.Laid.{place_at as nth}
use Rattle.plan.specs.Shapes.{shape, places_of}
use Rattle.walk.proofs.Finding.{stands_there, stands_nowhere}
use Rattle.walk.proofs.Laying.{turn, place_is, bin_is, all_starts}
use Rattle.walk.proofs.lookups.place_of.Goals as goal

pub overflow_add-place : goal.overflow_add-place
overflow_add-place c =
    let plan = c.args.plan.now in
    let ys = c.places-place-items.result.now in
    let t = turn plan ys c.loop-i.i c.places-place-items.ensures.value c.loop-i-test.true in
    let m : (nth ys c.loop-i.i).start + (nth ys c.loop-i.i).bins ≤ most_positions = omega (arith, t.inside, plan.few_bins) in
    search rules

pub returns-then-at-place-clause-is : goal.returns-then-at-place-clause-is
returns-then-at-place-clause-is c =
    let plan = c.args.plan.now in
    let ys = c.places-place-items.result.now in
    let i = c.loop-i.i in
    let at = c.args.at in
    let b = at - (nth ys i).start in
    let t = turn plan ys i c.places-place-items.ensures.value c.loop-i-test.true in
    let x = nth (places_of plan) i in
    let start = ap (λ z. z.start) t.same in
    let size = ap (λ z. z.bins) t.same in
    let here : at ≡ x.start + b = omega (arith, t.starts, c.loop-i.invariant) in
    let inside : b < x.bins = omega (arith, c.if-at-place.true) in
    stands_there (shape plan) at i b (omega (arith, t.inside, plan.full, c.if-at-place.true))
    (ap (place_at plan.size.columns plan.size.rows (records_of (places_of plan))) here ∙ place_is plan i t.known b inside)
    (ap (bin_at plan.size.columns plan.size.rows (records_of (places_of plan))) here ∙ bin_is plan i t.known b inside)

pub loop-i-preserved : goal.loop-i-preserved
loop-i-preserved c =
    let t = turn c.args.plan.now c.places-place-items.result.now c.loop-i.i c.places-place-items.ensures.value c.loop-i-test.true in
    omega (arith, t.next, c.if-at-place.false)

pub returns : goal.returns
returns c =
    let plan = c.args.plan.now in
    let e = ap length c.places-place-items.ensures.value in
    let all = all_starts plan c.loop-i.i (omega (arith, c.loop-i.auto.i-end)) (omega (arith, c.loop-i-test.false)) in
    record { is = stands_nowhere (shape plan) c.args.at (omega (arith, c.loop-i.invariant)); stands = omega (arith, c.loop-i.invariant) }
