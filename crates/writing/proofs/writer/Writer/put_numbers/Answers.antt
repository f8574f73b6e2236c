use Rattle.std.proofs.Common.{decimal, refl, arith}
use Rattle.writing.proofs.OfLines.{spaced_more, spaced_within}
use Rattle.writing.proofs.OfSplices.{writes_none, writes_more, writes_same}
use Rattle.writing.proofs.writer.Writer.put_numbers.Goals as goal

pub loop-number-init : goal.loop-number-init
loop-number-init c = writes_none c.args.self.now (omega (arith, c.requires))

pub put-requires : goal.put-requires
put-requires c =
    let r = spaced_within decimal c.args.numbers.now c.loop-number.number-index 0 _ refl c.loop-number-test.true in omega (arith, c.requires)

pub put_decimal-requires : goal.put_decimal-requires
put_decimal-requires c =
    let r = spaced_within decimal c.args.numbers.now c.loop-number.number-index 0 _ refl c.loop-number-test.true in
    omega (arith, c.requires)

pub loop-number-preserved : goal.loop-number-preserved
loop-number-preserved c =
    writes_same (spaced_more decimal c.args.numbers.now c.loop-number.number-index 0 _ refl c.loop-number-test.true)
    (writes_more (writes_more c.loop-number.invariant c.put.ensures) c.put_decimal.ensures)
