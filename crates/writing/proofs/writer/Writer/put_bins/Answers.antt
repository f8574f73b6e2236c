use Rattle.std.proofs.Common.{ap, arith}
use Rattle.std.proofs.lemmas.List.{take_all}
use Rattle.samples.specs.Reading.{code}
use Rattle.source.specs.Questions.{place_at}
use Rattle.format.specs.Texts.{bin_sums}
use Rattle.writing.specs.Lines.{spaced}
use Rattle.writing.proofs.OfPlaces.{codes_more, codes_within, length-sums}
use Rattle.writing.proofs.OfSplices.{writes_none, writes_more, writes_same}
use Rattle.writing.proofs.writer.Writer.put_bins.Goals as goal

pub loop-b-init : goal.loop-b-init
loop-b-init g c = writes_none c.args.self.now (omega (arith, c.requires.room))

pub put-requires : goal.put-requires
put-requires g c =
    let r = codes_within g.K.Kind g.K.Coded (g.S.Source.meaning c.args.source.now) c.args.i c.loop-b.b c.requires.place (omega (arith, c.requires.bins, c.loop-b-test.true)) c.in-Ok.sum c.in-Ok.ensures in
    omega (arith, c.requires.room)

pub put_code-requires : goal.put_code-requires
put_code-requires g c =
    let r = codes_within g.K.Kind g.K.Coded (g.S.Source.meaning c.args.source.now) c.args.i c.loop-b.b c.requires.place (omega (arith, c.requires.bins, c.loop-b-test.true)) c.in-Ok.sum c.in-Ok.ensures in
    omega (arith, c.requires.room)

pub loop-b-preserved : goal.loop-b-preserved
loop-b-preserved g c =
    writes_same (codes_more g.K.Kind g.K.Coded (g.S.Source.meaning c.args.source.now) c.args.i c.loop-b.b c.requires.place (omega (arith, c.requires.bins, c.loop-b-test.true)) c.in-Ok.sum c.in-Ok.ensures)
    (writes_more (writes_more c.loop-b.invariant c.put.ensures) c.put_code.ensures)

pub returns : goal.returns
returns g c =
    let m = g.S.Source.meaning c.args.source.now in
    let sums = bin_sums g.K.Kind m.P m.Q (place_at m c.args.i) in
    let all = length-sums g.K.Kind m.P m.Q (place_at m c.args.i) in
    writes_same (ap (spaced (code g.K.Coded)) (take_all c.loop-b.b sums (omega (arith, all, c.requires.bins, c.loop-b-test.false)))) c.loop-b.invariant
