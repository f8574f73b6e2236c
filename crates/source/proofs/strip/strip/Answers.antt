use Rattle.std.proofs.Common.{◌≡◌, ◌<◌, ◌++◌, length, take, drop, sym, ap, ◌∙◌, subst, arith}
use Rattle.std.proofs.lemmas.List.{get_or-replicate, length-take-le}
use Rattle.samples.specs.declared.words.SumWord.{SumWord}
use Rattle.samples.specs.Words.{sum_zero}
use Rattle.mojette.specs.Bounds.{most_pixels}
use Rattle.plan.proofs.Leading.{leading}
use Rattle.source.specs.Strips.{mean_at}
use Rattle.source.proofs.Stripping.{known, direction_known, pixels_few, bins_few, bins_known}
use Rattle.source.proofs.strip.strip.Goals as goal

pub count_pixels-bins-requires : goal.count_pixels-bins-requires
count_pixels-bins-requires g c =
    let h = known (g.S.Source.meaning c.args.source.now) c.args.place c.size.result.columns c.size.result.rows c.in_ok-record.record c.in_ok-plan.plan
    c.in_ok-plan.ensures c.size.ensures.columns c.size.ensures.rows c.in_ok-record.ensures in
    record {
      direction = direction_known h;
      ones = λ k l. ap (λ (w : SumWord). w.value) (get_or-replicate most_pixels k _ sum_zero l);
      room = (pixels_few h, bins_few h);
    }

pub slice_bounds-counts-end : goal.slice_bounds-counts-end
slice_bounds-counts-end g c =
    let h = known (g.S.Source.meaning c.args.source.now) c.args.place c.size.result.columns c.size.result.rows c.in_ok-record.record c.in_ok-plan.plan
    c.in_ok-plan.ensures c.size.ensures.columns c.size.ensures.rows c.in_ok-record.ensures in
    omega (arith, bins_few h, c.count_pixels-bins.ensures.bins, c.count_pixels-bins.auto.counts)

pub slice_bounds-write_means-end : goal.slice_bounds-write_means-end
slice_bounds-write_means-end g c =
    let h = known (g.S.Source.meaning c.args.source.now) c.args.place c.size.result.columns c.size.result.rows c.in_ok-record.record c.in_ok-plan.plan
    c.in_ok-plan.ensures c.size.ensures.columns c.size.ensures.rows c.in_ok-record.ensures in
    sym (length-take-le c.count_pixels-bins.result c.count_pixels-bins.new.counts (omega (arith, bins_few h, c.count_pixels-bins.ensures.bins, c.count_pixels-bins.auto.counts)))

pub write_means-requires-clause-bins : goal.write_means-requires-clause-bins
write_means-requires-clause-bins g c =
    let h = known (g.S.Source.meaning c.args.source.now) c.args.place c.size.result.columns c.size.result.rows c.in_ok-record.record c.in_ok-plan.plan
    c.in_ok-plan.ensures c.size.ensures.columns c.size.ensures.rows c.in_ok-record.ensures in
    let n = c.count_pixels-bins.ensures.bins in
    let bins = c.count_pixels-bins.result in
    let counts = c.count_pixels-bins.new.counts in
    let cut : length (take bins counts) ≡ bins = length-take-le bins counts (omega (arith, bins_few h, n, c.count_pixels-bins.auto.counts)) in
    (cut ∙ bins_known h bins n, length-take-le bins c.args.out.now c.if-out-bins.false ∙ sym cut)

pub returns-clause-means : goal.returns-clause-means
returns-clause-means g c =
    let m = g.S.Source.meaning c.args.source.now in
    let h = known m c.args.place c.size.result.columns c.size.result.rows c.in_ok-record.record c.in_ok-plan.plan
    c.in_ok-plan.ensures c.size.ensures.columns c.size.ensures.rows c.in_ok-record.ensures in
    let n = c.count_pixels-bins.ensures.bins in
    let bins = c.count_pixels-bins.result in
    let counts = c.count_pixels-bins.new.counts in
    let rest = drop bins c.args.out.now in
    let cut : length (take bins counts) ≡ bins = length-take-le bins counts (omega (arith, bins_few h, n, c.count_pixels-bins.auto.counts)) in
    let long = cut ∙ bins_known h bins n in
    λ b inside.
    leading (mean_at m c.args.place) (length (take bins counts)) rest (c.write_means.new.out ++ rest) (ap (λ xs. xs ++ rest) c.write_means.ensures)
    b (subst (λ k. b < k) (sym long) inside)
