use Rattle.writing.proofs.OfSplices.{writes_more, writes_same}
use Rattle.writing.proofs.OfTile.{line_pieces}
use Rattle.writing.proofs.writer.Writer.put_line.Goals as goal

pub returns : goal.returns
returns c =
    writes_same (line_pieces c.args.word.now c.args.numbers.now)
    (writes_more (writes_more (writes_more c.put.ensures c.put-2.ensures) c.put_numbers.ensures) c.put-3.ensures)
