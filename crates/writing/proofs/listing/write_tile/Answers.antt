use Rattle.std.proofs.Common.{length, ap, ◌∙◌, rules, arith}
use Rattle.plan.specs.Laid.{records_of}
use Rattle.format.specs.Listing.{tile_text}
use Rattle.writing.proofs.OfFilling.{filled, too_short}
use Rattle.writing.proofs.OfSplices.{writes_more, writes_same}
use Rattle.writing.proofs.OfTile.{all_there, tile_pieces, length-tile, counted, tile_fits}
use Rattle.writing.proofs.listing.write_tile.Goals as goal

pub returns-then-out-needed-clause-text : goal.returns-then-out-needed-clause-text
returns-then-out-needed-clause-text g c =
    let P = c.args.size.columns in
    let Q = c.args.size.rows in
    let t = tile_text g.K.Kind g.K.Coded c.args.word.now P Q (records_of c.args.places.now) c.args.picture.now in
    let e = counted g.K.Kind g.K.Coded c.args.word.now _ P Q (records_of c.args.places.now) c.args.picture.now c.kind_name-name.ensures _ _ _ c.head_len.ensures.value c.lost_len.ensures.value c.digits.ensures in
    too_short t c.args.out.now _ e c.if-out-needed.true ∙ all_there P Q c.args.picture.now t c.args.out.now (omega (arith, c.if-picture-pixels.false, c.pixels.ensures))

pub put_rows-requires-clause-room : goal.put_rows-requires-clause-room
put_rows-requires-clause-room g c =
    let P = c.args.size.columns in
    let Q = c.args.size.rows in
    let e = counted g.K.Kind g.K.Coded c.args.word.now _ P Q (records_of c.args.places.now) c.args.picture.now c.kind_name-name.ensures _ _ _ c.head_len.ensures.value c.lost_len.ensures.value c.digits.ensures in
    let l = length-tile g.K.Kind g.K.Coded c.args.word.now _ P Q (records_of c.args.places.now) c.args.picture.now c.kind_name-name.ensures in
    omega (arith, ap length c.new-writer.ensures.cells, c.if-out-needed.false)

pub put-requires : goal.put-requires
put-requires g c =
    let P = c.args.size.columns in
    let Q = c.args.size.rows in
    let e = counted g.K.Kind g.K.Coded c.args.word.now _ P Q (records_of c.args.places.now) c.args.picture.now c.kind_name-name.ensures _ _ _ c.head_len.ensures.value c.lost_len.ensures.value c.digits.ensures in
    let l = length-tile g.K.Kind g.K.Coded c.args.word.now _ P Q (records_of c.args.places.now) c.args.picture.now c.kind_name-name.ensures in
    omega (arith, ap length c.new-writer.ensures.cells, c.if-out-needed.false)

pub returns-clause-text : goal.returns-clause-text
returns-clause-text g c =
    let P = c.args.size.columns in
    let Q = c.args.size.rows in
    let t = tile_text g.K.Kind g.K.Coded c.args.word.now P Q (records_of c.args.places.now) c.args.picture.now in
    let e = counted g.K.Kind g.K.Coded c.args.word.now _ P Q (records_of c.args.places.now) c.args.picture.now c.kind_name-name.ensures _ _ _ c.head_len.ensures.value c.lost_len.ensures.value c.digits.ensures in
    let w = writes_same (tile_pieces g.K.Kind g.K.Coded c.args.word.now _ P Q (records_of c.args.places.now) c.args.picture.now c.kind_name-name.ensures)
    (writes_more (writes_more (writes_more c.put_head.ensures c.put_lost.ensures) c.put_rows.ensures) c.put.ensures) in
    let same = w.same_table in
    filled t c.args.out.now _ _ c.new-writer.ensures.empty c.new-writer.ensures.cells w (search rules) e (omega (arith, c.if-out-needed.false))
    ∙ all_there P Q c.args.picture.now t c.args.out.now (omega (arith, c.if-picture-pixels.false, c.pixels.ensures))

pub returns-then-picture-pixels-clause-fits : goal.returns-then-picture-pixels-clause-fits
returns-then-picture-pixels-clause-fits g c =
    let head = c.head_len.ensures.value in
    let lost = c.lost_len.ensures.value in
    tile_fits g.K.Kind g.K.Coded c.args.word.now _ c.args.size.columns c.args.size.rows (records_of c.args.places.now) c.args.picture.now c.kind_name-name.ensures
    (omega (arith, head, c.head_len.ensures.small)) (omega (arith, lost, c.lost_len.ensures.small)) c.args.size.few_columns c.args.size.few_rows

pub returns-then-out-needed-clause-fits : goal.returns-then-out-needed-clause-fits
returns-then-out-needed-clause-fits g c =
    let head = c.head_len.ensures.value in
    let lost = c.lost_len.ensures.value in
    tile_fits g.K.Kind g.K.Coded c.args.word.now _ c.args.size.columns c.args.size.rows (records_of c.args.places.now) c.args.picture.now c.kind_name-name.ensures
    (omega (arith, head, c.head_len.ensures.small)) (omega (arith, lost, c.lost_len.ensures.small)) c.args.size.few_columns c.args.size.few_rows

pub returns-clause-fits : goal.returns-clause-fits
returns-clause-fits g c =
    let head = c.head_len.ensures.value in
    let lost = c.lost_len.ensures.value in
    tile_fits g.K.Kind g.K.Coded c.args.word.now _ c.args.size.columns c.args.size.rows (records_of c.args.places.now) c.args.picture.now c.kind_name-name.ensures
    (omega (arith, head, c.head_len.ensures.small)) (omega (arith, lost, c.lost_len.ensures.small)) c.args.size.few_columns c.args.size.few_rows
