use Rattle.std.proofs.Common.{refl, rules}
use Rattle.writing.proofs.OfSplices.{put_cells}
use Rattle.writing.proofs.writer.Writer.put.Goals as goal

pub returns : goal.returns
returns c = record {
  same_table = refl;
  same_length = search rules;
  filled = refl;
  inside = search rules;
  cells = put_cells c.args.self.now.filled c.args.self.now.table.now c.args.text.now c.copy_from_slice.new.self (search rules);
}
