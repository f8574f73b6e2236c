use Rattle.std.proofs.Common.{rules, ◌≡◌, ◌+◌, ◌-◌, ◌*◌, ◌<◌, length, sym, ap, ◌∙◌, subst, arith}
use Rattle.std.proofs.lemmas.List.{drop-set-lt}
use Rattle.mojette.specs.Bins.{bins}
use Rattle.plan.specs.Laid.{direction_of, bin_number, turned}
use Rattle.plan.proofs.Adding.{sample_added}
use Rattle.plan.proofs.Cells.{bin_below, below_inside}
use Rattle.plan.proofs.project.add_up.Goals as goal

pub bounds-sums-bin : goal.bounds-sums-bin
bounds-sums-bin g c =
    let step = c.requires.step in
    let below = below_inside c.args.size.columns c.args.size.rows c.args.place c.loop-k.k c.loop-l.l c.loop-k-test.true c.loop-l-test.true c.loop-k.bin c.loop-k.invariant.2 in
    omega arith

pub bounds-sums-bin-in-loop-k : goal.bounds-sums-bin-in-loop-k
bounds-sums-bin-in-loop-k g c =
    let step = c.requires.step in
    let below = below_inside c.args.size.columns c.args.size.rows c.args.place c.loop-k.k c.loop-l.l c.loop-k-test.true c.loop-l-test.true c.loop-k.bin c.loop-k.invariant.2 in
    omega arith

pub loop-k-preserved : goal.loop-k-preserved
loop-k-preserved g c =
    let P = c.args.size.columns in
    let Q = c.args.size.rows in
    let x = c.args.place in
    let bin = c.loop-k.bin - g.row.Q in
    let is : bin ≡ bin_number P Q x c.loop-k.k c.loop-l.l = ap (λ n. c.loop-k.bin - n) (sym c.requires.step) ∙ bin_below P Q x c.loop-k.k c.loop-l.l c.loop-k-test.true c.loop-l-test.true c.loop-k.bin c.loop-k.invariant.2 in
    let below = subst (λ n. c.loop-k.bin - n < bins P Q (direction_of x)) c.requires.step (below_inside P Q x c.loop-k.k c.loop-l.l c.loop-k-test.true c.loop-l-test.true c.loop-k.bin c.loop-k.invariant.2) in
    let inside : c.loop-k.bin - g.row.Q < length c.loop-k.sums = omega arith in
    let e : c.args.size.columns - 1 - c.loop-k.k ≡ c.args.size.columns - (c.loop-k.k + 1) = omega arith in (
      sample_added g.K.Kind P Q x c.args.picture.now c.loop-k.sums c.loop-k.k c.loop-l.l
          c.loop-k-test.true c.loop-l-test.true bin c.cell_of-cell.result c.index-sums-bin.result c.index-picture-cell.result
          c.add.result is c.cell_of-cell.ensures.value c.index-sums-bin.is c.index-picture-cell.is c.add.ensures
          inside (omega (arith, c.cell_of-cell.ensures.inside)) c.loop-k.invariant.0,
      drop-set-lt (bins P Q (direction_of x)) c.loop-k.sums bin c.add.result below ∙ c.loop-k.invariant.1,
      is ∙ ap (λ n. n * c.args.place.q + turned c.args.place.leftward c.args.size.rows c.loop-l.l * c.args.place.slope) e,
    )

pub offset_bounds-sums-bin : goal.offset_bounds-sums-bin
offset_bounds-sums-bin g c = let inside = bounds-sums-bin g c in search rules

pub offset_bounds-sums-bin-in-loop-k : goal.offset_bounds-sums-bin-in-loop-k
offset_bounds-sums-bin-in-loop-k g c = let inside = bounds-sums-bin-in-loop-k g c in search rules
