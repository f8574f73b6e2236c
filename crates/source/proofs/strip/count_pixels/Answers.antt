use Rattle.std.proofs.Common.{arith}
use Rattle.source.proofs.Ones.{bins_counted, pixels_counted, counted_few}
use Rattle.source.proofs.strip.count_pixels.Goals as goal

pub returns : goal.returns
returns c = record {
  bins = bins_counted c.args.size.columns c.args.size.rows c.args.direction c.args.ones.now c.args.counts.now c.args.size.columns_ok c.args.size.rows_ok c.requires.direction
      c.requires.room.0 c.requires.room.1 c.in-Ok.bins c.project.new.sums c.in-Ok.ensures.value;
  counts = pixels_counted c.args.size.columns c.args.size.rows c.args.direction c.args.ones.now c.args.counts.now c.args.size.columns_ok c.args.size.rows_ok c.requires.direction
      c.requires.room.0 c.requires.room.1 c.in-Ok.bins c.project.new.sums c.in-Ok.ensures.value (λ k h. c.requires.ones k (omega (arith, c.requires.room.0)));
  few = counted_few c.args.size.columns c.args.size.rows c.args.direction c.args.ones.now c.args.counts.now c.args.size.columns_ok c.args.size.rows_ok c.requires.direction
      c.requires.room.0 c.requires.room.1 c.in-Ok.bins c.project.new.sums c.in-Ok.ensures.value (λ k h. c.requires.ones k (omega (arith, c.requires.room.0)));
}
