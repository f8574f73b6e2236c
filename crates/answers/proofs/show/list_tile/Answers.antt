use Rattle.std.proofs.Common.{◌≡◌, [], length, ◌≤◌, arith, take, replicate, sym, refl, ap, ◌∙◌}
use Rattle.std.proofs.lemmas.List.{length-replicate}
use Rattle.mojette.specs.Meaning.{shape_of, pixels_of}
use Rattle.mojette.specs.Faults.{refusal_of}
use Rattle.format.specs.Listing.{picture_text, ghost_text, refusal_text}
use Rattle.tile.specs.Outcomes.{tables}
use Rattle.tile.specs.Worlds.{contents}
use Rattle.runs.specs.Rebuilding.{served, refuses}
use Rattle.plan.specs.Shapes.{shape}
use Rattle.writing.specs.Splices.{filling, listing}
use Rattle.answers.specs.Tiles.{clear_tables, answered}
use Rattle.answers.specs.Answers.{listed}
use Rattle.answers.proofs.Shown.{ready, shows}
use Rattle.answers.proofs.Listings.{own_pixels_few, picture_fills, ghost_fills, ghost_listed, other_listed, listed_by}
use Rattle.answers.proofs.Lengths.{same_length, listed_length}
use Rattle.answers.proofs.show.list_tile.Goals as goal

pub returns-in-Ok-clause-text : goal.returns-in-Ok-clause-text
returns-in-Ok-clause-text g c =
    let K = g.S.Sample.Kind in
    let C = g.S.Sample.Coded in
    let m = g.S.Source.meaning c.args.source.now in
    let pixels = own_pixels_few c.args.plan (shape_of m) c.requires.own in
    let new = c.rebuild-answer.new in
    let after = contents new.tables in
    let before = tables c.args.picture.now (replicate 4096 0) c.args.sums.now (replicate 8192 0) (replicate 8192 0) in
    let clear : before ≡ clear_tables K = rw (c.requires.picture, c.requires.sums) refl in
    let own : shape new.plan ≡ shape_of m = c.rebuild-answer.ensures.plan.0 (ready K C m c.requires.lawful pixels c.requires.few before clear) in
    let few : pixels_of (shape_of m) ≤ length after.picture =
    let long : length after.picture ≡ 4096 = c.rebuild-answer.ensures.lent.picture_size ∙ ap length c.requires.picture ∙ length-replicate 4096 K.zero in
    omega (arith, pixels, long) in
    c.write_picture.ensures.text
    ∙ picture_fills K C (shape_of m) c.pixels.result (c.pixels.ensures ∙ ap pixels_of own) after.picture few c.args.out.now
    c.size.result.columns c.size.result.rows (c.size.ensures.columns ∙ ap (λ s. s.P) own) (c.size.ensures.rows ∙ ap (λ s. s.Q) own)
    ∙ ap (λ text. filling text c.args.out.now) (listed_by K C m (served c.in-Ok.field-0) after before c.in-Ok.ensures.by_steps clear)

pub returns-in-Ghost-clause-text : goal.returns-in-Ghost-clause-text
returns-in-Ghost-clause-text g c =
    let K = g.S.Sample.Kind in
    let C = g.S.Sample.Coded in
    let m = g.S.Source.meaning c.args.source.now in
    let pixels = own_pixels_few c.args.plan (shape_of m) c.requires.own in
    let new = c.rebuild-answer.new in
    let n = c.pixels.result in
    let after = contents new.tables in
    let before = tables c.args.picture.now (replicate 4096 0) c.args.sums.now (replicate 8192 0) (replicate 8192 0) in
    let clear : before ≡ clear_tables K = rw (c.requires.picture, c.requires.sums) refl in
    let own : shape new.plan ≡ shape_of m = c.rebuild-answer.ensures.plan.0 (ready K C m c.requires.lawful pixels c.requires.few before clear) in
    let few : pixels_of (shape_of m) ≤ length after.picture =
    let long : length after.picture ≡ 4096 = c.rebuild-answer.ensures.lent.picture_size ∙ ap length c.requires.picture ∙ length-replicate 4096 K.zero in
    omega (arith, pixels, long) in
    c.write_ghost.ensures.text
    ∙ ap (λ s. listing s.P s.Q (take n after.picture) (ghost_text K C s (take n after.picture)) c.args.out.now) own
    ∙ ghost_fills K C (shape_of m) n (c.pixels.ensures ∙ ap pixels_of own) after.picture few c.args.out.now
    ∙ ap (λ text. filling text c.args.out.now) (ghost_listed K C m c.in-Err.fault c.in-Ghost.field-0 c.in-Ghost.field-1 after c.in-Ghost.is
    ∙ listed_by K C m (refuses (refusal_of c.in-Err.fault)) after before c.in-Err.ensures.by_steps clear)

pub returns-in_default-clause-text : goal.returns-in_default-clause-text
returns-in_default-clause-text g c =
    let K = g.S.Sample.Kind in
    let C = g.S.Sample.Coded in
    let m = g.S.Source.meaning c.args.source.now in
    let new = c.rebuild-answer.new in
    let f = c.in-Err.fault in
    let after = contents new.tables in
    let before = tables c.args.picture.now (replicate 4096 0) c.args.sums.now (replicate 8192 0) (replicate 8192 0) in
    let clear : before ≡ clear_tables K = rw (c.requires.picture, c.requires.sums) refl in
    c.write_refusal.ensures.text
    ∙ ap (λ text. filling text c.args.out.now)
    (ap refusal_text c.from.ensures ∙ other_listed K C m f after c.in_default.not-Ghost ∙ listed_by K C m (refuses (refusal_of f)) after before c.in-Err.ensures.by_steps clear)

pub returns-in-Ok-clause-law : goal.returns-in-Ok-clause-law
returns-in-Ok-clause-law g c =
    let K = g.S.Sample.Kind in
    let C = g.S.Sample.Coded in
    let m = g.S.Source.meaning c.args.source.now in
    let new = c.rebuild-answer.new in
    let few = own_pixels_few c.args.plan (shape_of m) c.requires.own in
    let after = contents new.tables in
    let before = tables c.args.picture.now (replicate 4096 0) c.args.sums.now (replicate 8192 0) (replicate 8192 0) in
    let clear : before ≡ clear_tables K = rw (c.requires.picture, c.requires.sums) refl in
    shows K C m c.requires.lawful few c.requires.few (served c.in-Ok.field-0) after before clear c.in-Ok.ensures.run c.in-Ok.ensures.by_steps

pub returns-in-Ghost-clause-law : goal.returns-in-Ghost-clause-law
returns-in-Ghost-clause-law g c =
    let K = g.S.Sample.Kind in
    let C = g.S.Sample.Coded in
    let m = g.S.Source.meaning c.args.source.now in
    let new = c.rebuild-answer.new in
    let few = own_pixels_few c.args.plan (shape_of m) c.requires.own in
    let after = contents new.tables in
    let before = tables c.args.picture.now (replicate 4096 0) c.args.sums.now (replicate 8192 0) (replicate 8192 0) in
    let clear : before ≡ clear_tables K = rw (c.requires.picture, c.requires.sums) refl in
    shows K C m c.requires.lawful few c.requires.few (refuses (refusal_of c.in-Err.fault)) after before clear c.in-Err.ensures.run c.in-Err.ensures.by_steps

pub returns-in_default-clause-law : goal.returns-in_default-clause-law
returns-in_default-clause-law g c =
    let K = g.S.Sample.Kind in
    let C = g.S.Sample.Coded in
    let m = g.S.Source.meaning c.args.source.now in
    let new = c.rebuild-answer.new in
    let few = own_pixels_few c.args.plan (shape_of m) c.requires.own in
    let after = contents new.tables in
    let before = tables c.args.picture.now (replicate 4096 0) c.args.sums.now (replicate 8192 0) (replicate 8192 0) in
    let clear : before ≡ clear_tables K = rw (c.requires.picture, c.requires.sums) refl in
    shows K C m c.requires.lawful few c.requires.few (refuses (refusal_of c.in-Err.fault)) after before clear c.in-Err.ensures.run c.in-Err.ensures.by_steps

pub returns-in-Ok-clause-fits : goal.returns-in-Ok-clause-fits
returns-in-Ok-clause-fits g c =
    let K = g.S.Sample.Kind in
    let C = g.S.Sample.Coded in
    let m = g.S.Source.meaning c.args.source.now in
    let tile = take c.pixels.result (contents c.rebuild-answer.new.tables).picture in
    let size = c.size.result in
    let t = picture_text K C (record { P = size.columns; Q = size.rows; records = [] }) tile in
    let e = listed_length size.columns size.rows tile t (listed K C m (answered K m)) c.args.out.now (sym c.write_picture.ensures.text ∙ returns-in-Ok-clause-text g c) in
    omega (arith, e, c.write_picture.ensures.fits)

pub returns-in-Ghost-clause-fits : goal.returns-in-Ghost-clause-fits
returns-in-Ghost-clause-fits g c =
    let K = g.S.Sample.Kind in
    let C = g.S.Sample.Coded in
    let m = g.S.Source.meaning c.args.source.now in
    let tile = take c.pixels.result (contents c.rebuild-answer.new.tables).picture in
    let s = shape c.rebuild-answer.new.plan in
    let e = listed_length s.P s.Q tile (ghost_text K C s tile) (listed K C m (answered K m)) c.args.out.now (sym c.write_ghost.ensures.text ∙ returns-in-Ghost-clause-text g c) in
    omega (arith, e, c.write_ghost.ensures.fits)

pub returns-in_default-clause-fits : goal.returns-in_default-clause-fits
returns-in_default-clause-fits g c =
    let K = g.S.Sample.Kind in
    let C = g.S.Sample.Coded in
    let m = g.S.Source.meaning c.args.source.now in
    let e = same_length (refusal_text c.from.result) (listed K C m (answered K m)) c.args.out.now (sym c.write_refusal.ensures.text ∙ returns-in_default-clause-text g c) in
    omega (arith, e, c.write_refusal.ensures.fits)
