use Rattle.std.proofs.Common.{ap, arith}
use Rattle.samples.specs.Reading.{code}
use Rattle.writing.proofs.OfLines.{spaced_more, spaced_within}
use Rattle.writing.proofs.OfSplices.{writes_none, writes_more, writes_same}
use Rattle.writing.proofs.writer.Writer.put_codes.Goals as goal

pub loop-sample-init : goal.loop-sample-init
loop-sample-init g c = writes_none c.args.self.now (omega (arith, c.requires))

pub put-requires : goal.put-requires
put-requires g c =
    let code = code g.K.Coded in
    let x = c.sample-item.result in
    let r = spaced_within code c.args.samples.now c.loop-sample.sample-index x (code x) (ap code c.sample-item.is) c.loop-sample-test.true in omega (arith, c.requires)

pub put_code-requires : goal.put_code-requires
put_code-requires g c =
    let code = code g.K.Coded in
    let x = c.sample-item.result in
    let r = spaced_within code c.args.samples.now c.loop-sample.sample-index x (code x) (ap code c.sample-item.is) c.loop-sample-test.true in
    omega (arith, c.requires)

pub loop-sample-preserved : goal.loop-sample-preserved
loop-sample-preserved g c =
    let code = code g.K.Coded in
    let x = c.sample-item.result in
    writes_same (spaced_more code c.args.samples.now c.loop-sample.sample-index x (code x) (ap code c.sample-item.is) c.loop-sample-test.true)
    (writes_more (writes_more c.loop-sample.invariant c.put.ensures) c.put_code.ensures)
