use Rattle.writing.proofs.OfPlaces.{direction_pieces}
use Rattle.writing.proofs.OfSplices.{writes_more, writes_same}
use Rattle.writing.proofs.writer.Writer.put_direction.Goals as goal

pub returns : goal.returns
returns c =
    writes_same (direction_pieces c.args.place.now c.sign.result.now c.sign.ensures.value)
    (writes_more (writes_more (writes_more c.put.ensures c.put-2.ensures) c.put_decimal.ensures) c.put_numbers.ensures)
