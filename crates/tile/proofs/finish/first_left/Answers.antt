use Rattle.std.proofs.Common.{◌+◌, ◌<◌, ◌≤◌, false, length, ap, ◌∙◌, arith, rules}
use Rattle.std.proofs.lemmas.List.Edits.{length-between, get_or-between}
use Rattle.mojette.specs.Meaning.{bins_of}
use Rattle.plan.specs.Laid.{place_at}
use Rattle.plan.specs.Shapes.{shape}
use Rattle.walk.proofs.Laying.{turn, all_starts}
use Rattle.tile.proofs.Leftovers.{read_left, first_is, none_left}
use Rattle.tile.proofs.finish.first_left.Goals as goal

pub overflow_add-own : goal.overflow_add-own
overflow_add-own g c =
    let plan = c.args.plan.now in
    let t = turn plan c.places-places.result.now c.loop-i.i c.places-places.ensures.value c.loop-i-test.true in
    let x = place_at c.places-places.result.now c.loop-i.i in
    let few : x.start + x.bins < 65536 = omega (arith, t.inside, plan.few_bins) in
    search rules

pub offset_bounds-sums-place : goal.offset_bounds-sums-place
offset_bounds-sums-place g c =
    let plan = c.args.plan.now in
    let t = turn plan c.places-places.result.now c.loop-i.i c.places-places.ensures.value c.loop-i-test.true in
    omega (arith, t.inside, plan.full, c.requires)

pub slice_bounds-own-end : goal.slice_bounds-own-end
slice_bounds-own-end g c =
    let plan = c.args.plan.now in
    let t = turn plan c.places-places.result.now c.loop-i.i c.places-places.ensures.value c.loop-i-test.true in
    let x = place_at c.places-places.result.now c.loop-i.i in
    let fits : x.start + x.bins ≤ length c.args.sums.now = omega (arith, t.inside, plan.full, c.requires) in
    search rules

pub loop-i-preserved : goal.loop-i-preserved
loop-i-preserved g c =
    let plan = c.args.plan.now in
    let sums = c.args.sums.now in
    let t = turn plan c.places-places.result.now c.loop-i.i c.places-places.ensures.value c.loop-i-test.true in
    let place = place_at c.places-places.result.now c.loop-i.i in
    let fits : place.start + place.bins ≤ length sums = omega (arith, t.inside, plan.full, c.requires) in
    let all : place.bins ≤ c.loop-b.b = omega (arith, length-between sums place.start (place.start + place.bins) fits, c.loop-b-test.false) in
    λ x l. c.loop-b.invariant x (omega (arith, t.next, t.starts))

pub returns-then-not-same : goal.returns-then-not-same
returns-then-not-same g c =
    let plan = c.args.plan.now in
    let sums = c.args.sums.now in
    let t = turn plan c.places-places.result.now c.loop-i.i c.places-places.ensures.value c.loop-i-test.true in
    let place = place_at c.places-places.result.now c.loop-i.i in
    let at = place.start + c.loop-b.b in
    let fits : place.start + place.bins ≤ length sums = omega (arith, t.inside, plan.full, c.requires) in
    let within : c.loop-b.b < place.bins = omega (arith, length-between sums place.start (place.start + place.bins) fits, c.loop-b-test.true) in
    let inside : at < bins_of (shape plan) = omega (arith, t.inside, plan.full) in
    let here = read_left g.K.Kind sums at c.index-own-b.result c.zero_sample-zero.result false (omega arith)
    (c.index-own-b.is ∙ get_or-between sums place.start (place.start + place.bins) c.loop-b.b c.index-own-b.result (omega arith)) c.zero_sample-zero.ensures c.if-not-same.ensures in
    let first = first_is g.K.Kind sums (bins_of (shape plan)) at inside here (λ y m. c.loop-b.invariant y (omega (arith, t.starts))) in
    record {
      known = t.known;
      position = first ∙ ap (λ x. x.start + c.loop-b.b) t.same;
      inside = omega (arith, ap (λ x. x.bins) t.same);
    }

pub returns-after-loop-i : goal.returns-after-loop-i
returns-after-loop-i g c =
    let plan = c.args.plan.now in
    let e = ap length c.places-places.ensures.value in
    let all = all_starts plan c.loop-i.i (omega (arith, c.loop-i.auto.i-end)) (omega (arith, c.loop-i-test.false)) in
    none_left g.K.Kind c.args.sums.now (bins_of (shape plan)) (λ x l. c.loop-i.invariant x (omega arith))
