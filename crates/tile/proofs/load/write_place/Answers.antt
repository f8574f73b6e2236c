use Rattle.std.proofs.Common.{◌+◌, ◌-◌, ◌∙◌, arith}
use borrow.Rule.Slice.PartMut.{put_mid}
use Rattle.law.proofs.Writing.{written_none, written_more}
use Rattle.tile.specs.Loads.{bin_value}
use Rattle.tile.proofs.Parts.{put_same, put_set}
use Rattle.tile.proofs.load.write_place.Goals as goal

pub loop-b-init : goal.loop-b-init
loop-b-init g c =
    let from = c.args.from in
    put_same from (from + c.args.bins - from) c.args.sums.now
    ∙ written_none from (bin_value g.S.Sample.Kind (g.S.Source.meaning c.args.source.now) c.args.i) c.args.sums.now

pub loop-b-preserved : goal.loop-b-preserved
loop-b-preserved g c =
    let from = c.args.from in
    let n = from + c.args.bins - from in
    let sums = c.args.sums.now in
    put_set from n sums c.loop-b.sum-items c.loop-b.b c.bin_or_zero.result (omega arith) (omega arith)
    ∙ written_more from c.loop-b.b (bin_value g.S.Sample.Kind (g.S.Source.meaning c.args.source.now) c.args.i) sums (put_mid from n sums c.loop-b.sum-items)
    c.bin_or_zero.result c.loop-b.invariant c.bin_or_zero.ensures
