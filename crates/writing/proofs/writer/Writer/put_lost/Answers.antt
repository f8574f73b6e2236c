use Rattle.std.proofs.Common.{[], ◌∷◌, length, take, ap, length-append, codes as text, arith}
use Rattle.plan.specs.Laid.{records_of}
use Rattle.format.specs.Listing.{lost_text}
use Rattle.writing.specs.Lines.{line_text}
use Rattle.writing.proofs.OfLost.{lost_skip, lost_more, lost_within}
use Rattle.writing.proofs.OfSplices.{writes_none, writes_more, writes_same}
use Rattle.writing.proofs.writer.Writer.put_lost.Goals as goal
use Rattle.writing.proofs.writer.Writer.put_lost.Goals.{then-place-ne0, else-place-ne0}

pub loop-i-init : goal.loop-i-init
loop-i-init c = writes_none c.args.self.now (omega (arith, c.requires))

pub put_line-requires : goal.put_line-requires
put_line-requires c =
    let xs = c.args.places.now in
    let i = c.loop-i.i in
    let line = line_text (text "lost") (i ∷ (c.from.result ∷ [])) in
    let e = ap length (lost_more xs i c.loop-i-test.true c.from.result c.from.ensures c.if-place-ne0.true) in
    omega (arith, c.requires, lost_within xs i c.loop-i-test.true, length-append (lost_text 0 (records_of (take i xs)) []) line)

pub loop-i-preserved : goal.loop-i-preserved
loop-i-preserved c =
    let xs = c.args.places.now in
    let i = c.loop-i.i in
    elim c.if-place-ne0.branch [
      | then-place-ne0 w ↦ rw w.self-is (writes_same (lost_more xs i c.loop-i-test.true w.from.result w.from.ensures w.if-place-ne0.true) (writes_more c.loop-i.invariant w.put_line.ensures))
      | else-place-ne0 w ↦ rw w.self-is (writes_same (lost_skip xs i c.loop-i-test.true w.if-place-ne0.false) c.loop-i.invariant)
    ]
