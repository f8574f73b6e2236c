use Rattle.writing.proofs.OfSplices.{writes_more, writes_same}
use Rattle.writing.proofs.OfTile.{row_pieces}
use Rattle.writing.proofs.writer.Writer.put_row.Goals as goal

pub returns : goal.returns
returns g c = writes_same (row_pieces g.K.Coded c.args.samples.now) (writes_more (writes_more c.put.ensures c.put_codes.ensures) c.put-2.ensures)
