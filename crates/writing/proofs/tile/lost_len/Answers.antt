use Rattle.std.proofs.Common.{[], ◌∷◌, length, take, ap, length-append, codes as text, arith}
use Rattle.plan.specs.Laid.{records_of}
use Rattle.format.specs.Listing.{lost_text}
use Rattle.writing.specs.Lines.{line_text}
use Rattle.writing.proofs.OfLost.{lost_skip, lost_more}
use Rattle.writing.proofs.tile.lost_len.Goals as goal
use Rattle.writing.proofs.tile.lost_len.Goals.{then-place-ne0, else-place-ne0}

pub loop-i-preserved : goal.loop-i-preserved
loop-i-preserved c =
    let xs = c.args.places.now in
    let i = c.loop-i.i in
    elim c.if-place-ne0.branch [
      | then-place-ne0 w ↦
          let e = ap length (lost_more xs i c.loop-i-test.true w.from.result w.from.ensures w.if-place-ne0.true) in
          let l = length-append (lost_text 0 (records_of (take i xs)) []) (line_text (text "lost") (i ∷ (w.from.result ∷ []))) in
          rw w.len-is (omega (arith, c.loop-i.invariant.0, w.line_len-len.ensures.value), omega (arith, c.loop-i.invariant.1, w.line_len-len.ensures.short))
      | else-place-ne0 w ↦
          let e = ap length (lost_skip xs i c.loop-i-test.true w.if-place-ne0.false) in
          rw w.len-is (omega (arith, c.loop-i.invariant.0), omega (arith, c.loop-i.invariant.1))
    ]
