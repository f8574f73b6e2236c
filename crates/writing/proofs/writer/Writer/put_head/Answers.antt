use Rattle.writing.proofs.OfSplices.{writes_more, writes_same}
use Rattle.writing.proofs.OfTile.{head_pieces}
use Rattle.writing.proofs.writer.Writer.put_head.Goals as goal

pub returns : goal.returns
returns c =
    writes_same (head_pieces c.args.word.now c.args.name.now c.args.size.columns c.args.size.rows)
    (writes_more (writes_more (writes_more (writes_more (writes_more c.put.ensures c.put-2.ensures) c.put-3.ensures) c.put-4.ensures) c.put_numbers.ensures) c.put-5.ensures)
