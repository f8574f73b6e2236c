use Rattle.std.proofs.Common.{◌<◌, ◌≤◌, length, sym, ap, ◌∙◌, subst, arith}
use Rattle.std.proofs.lemmas.Bool.{cond-false, le-ltb}
use Rattle.mojette.specs.Meaning.{pixels_of, bins_of}
use Rattle.peeling.specs.Counting.{number}
use Rattle.peeling.specs.Steps.{filled}
use Rattle.law.specs.Positions.{incidence}
use Rattle.plan.specs.Laid.{place_at as nth}
use Rattle.plan.specs.Shapes.{shape}
use Rattle.walk.proofs.Fewness.{few_counted}
use Rattle.walk.proofs.Laying.{all_starts}
use Rattle.walk.proofs.Places.{laid_within, one_place_more}
use Rattle.law.proofs.Writing.{filled_none}
use Rattle.walk.proofs.counts.count_pixels.Goals as goal

pub loop-place-init : goal.loop-place-init
loop-place-init c = filled_none _ c.args.counts.now

pub count_place-requires : goal.count_place-requires
count_place-requires c =
    let plan = c.args.plan.now in
    let i = c.loop-place.place-index in
    laid_within plan i (subst (λ ys. i < length ys) c.places-place-items.ensures.value c.loop-place-test.true) c.size-size.result.columns c.size-size.result.rows
    (nth c.places-place-items.result.now i) c.size-size.ensures.columns c.size-size.ensures.rows (ap (λ ys. nth ys i) c.places-place-items.ensures.value)
    (length c.loop-place.counts) (omega (arith, c.total.ensures.value, c.if-counts-total.false, c.loop-place.auto.counts))

pub loop-place-preserved : goal.loop-place-preserved
loop-place-preserved c =
    let plan = c.args.plan.now in
    let i = c.loop-place.place-index in
    one_place_more plan i (subst (λ ys. i < length ys) c.places-place-items.ensures.value c.loop-place-test.true) c.size-size.result.columns c.size-size.result.rows
    (nth c.places-place-items.result.now i) c.size-size.ensures.columns c.size-size.ensures.rows (ap (λ ys. nth ys i) c.places-place-items.ensures.value)
    c.args.counts.now c.loop-place.counts c.count_place.new.counts c.loop-place.invariant c.count_place.ensures

pub returns : goal.returns
returns c =
    let plan = c.args.plan.now in
    let e = ap length c.places-place-items.ensures.value in
    let all = all_starts plan c.loop-place.place-index (omega (arith, c.loop-place.auto.place-index-end)) (omega (arith, c.loop-place-test.false)) in
    let long : bins_of (shape plan) ≤ length c.args.counts.now = omega (arith, c.total.ensures.value, c.if-counts-total.false) in
    let is = c.loop-place.invariant ∙ ap (λ n. filled n (λ x. number (pixels_of (shape plan)) (λ k. (incidence (shape plan)).lies k x)) c.args.counts.now) all in
    record {
      answer = sym (cond-false _ _ _ (le-ltb (length c.args.counts.now) (bins_of (shape plan)) long));
      counts = is ∙ sym (cond-false _ _ _ (le-ltb (length c.args.counts.now) (bins_of (shape plan)) long));
      few = few_counted plan c.args.counts.now c.loop-place.counts is long;
    }
