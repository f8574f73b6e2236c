use Rattle.std.proofs.Common.{◌≡◌, ◌+◌, ◌*◌, [], ◌++◌, length, take, drop, sym, ap, ◌∙◌, arith}
use Rattle.std.specs.Slice.Iter.{chunks_exact_rest}
use Rattle.format.specs.Listing.{rows_text}
use Rattle.writing.proofs.OfRows.{row_below, rows_more, rows_left, row_within, rows_end}
use Rattle.writing.proofs.OfSplices.{writes_none, writes_more, writes_same}
use Rattle.writing.proofs.writer.Writer.put_rows.Goals as goal

pub loop-row-init : goal.loop-row-init
loop-row-init g c =
    let cells = take (c.args.size.columns * c.args.size.rows) c.args.picture.now in
    let z : 0 ≡ 0 * c.args.size.columns = omega arith in
    rw c.into_iter-row-iterator.ensures.into_iter_gives (
      omega (arith, c.chunks_exact-row-items.ensures.size),
      tt,
      c.chunks_exact-row-items.ensures.size,
      (
        0,
        (
          omega arith,
          c.chunks_exact-row-items.ensures.rest ∙ ap (λ n. take n c.args.picture.now) c.pixels.ensures ∙ ap (λ n. drop n cells) z,
          writes_none c.args.self.now (omega (arith, c.requires.room)),
        ),
      ),
    )

pub put_row-requires : goal.put_row-requires
put_row-requires g c =
    let i = c.loop-row.invariant in
    let steps = c.in-Some.ensures.steps in
    let within = row_within g.K.Kind g.K.Coded c.args.size.columns c.args.picture.now c.args.size.rows i.3.0 c.in-Some.row.now _ c.args.size.some_columns c.requires.pixels (steps.1.1 ∙ i.2) (sym i.3.1.1 ∙ steps.1.0) in
    omega (arith, c.requires.room, i.3.1.2.filled, i.3.1.2.same_length)

pub loop-row-preserved : goal.loop-row-preserved
loop-row-preserved g c =
    let i = c.loop-row.invariant in
    let n = i.3.0 in
    let P = c.args.size.columns in
    let Q = c.args.size.rows in
    let tile = c.args.picture.now in
    let part = c.in-Some.row.now in
    let steps = c.in-Some.ensures.steps in
    let more : drop (n * P) (take (P * Q) tile) ≡ part ++ chunks_exact_rest c.next.new.self = sym i.3.1.1 ∙ steps.1.0 in
    let wide : length part ≡ P = steps.1.1 ∙ i.2 in (
      omega (arith, i.0, steps.0),
      tt,
      steps.0 ∙ i.2,
      (
        n + 1,
        (
          omega (arith, row_below g.K.Kind g.K.Coded P tile Q n part _ c.args.size.some_columns c.requires.pixels wide more),
          rows_left g.K.Kind g.K.Coded P tile Q n part _ c.args.size.some_columns c.requires.pixels wide more,
          writes_same (rows_more g.K.Kind g.K.Coded P tile Q n part _ c.args.size.some_columns c.requires.pixels wide more) (writes_more i.3.1.2 c.put_row.ensures),
        ),
      ),
    )

pub returns : goal.returns
returns g c =
    let i = c.loop-row.invariant in
    let P = c.args.size.columns in
    let tile = c.args.picture.now in
    let e = rows_end g.K.Kind g.K.Coded P tile c.args.size.rows i.3.0 i.3.1.0 c.requires.pixels (omega (arith, ap length i.3.1.1, c.in-None.ensures.steps.1.0, i.2)) in
    writes_same (ap (λ n. rows_text g.K.Kind g.K.Coded P tile 0 n []) e) i.3.1.2
