use Rattle.std.proofs.Common.{◌≡◌, length, ◌∙◌, arith}
use Rattle.std.proofs.lemmas.List.FromFn.{fill_by_all}
use Rattle.source.specs.Strips.{mean_at}
use Rattle.source.proofs.strip.write_means.Goals as goal

pub returns : goal.returns
returns g c =
    let m = g.S.Source.meaning c.args.source.now in
    let n : length c.loop-b.out ≡ length c.args.counts.now = c.loop-b.auto.out ∙ c.requires.bins.1 in
    fill_by_all (mean_at m c.args.place) c.loop-b.out (length c.args.counts.now) 0 n
    (λ k h. c.loop-b.invariant k (omega (arith, c.loop-b-test.false, c.requires.bins.1)))
