use Rattle.std.proofs.Common.{ap, subst, length, ◌<◌, ◌≤◌, ◌∙◌, arith}
use Rattle.mojette.specs.Meaning.{bins_of, shape_of}
use Rattle.answers.specs.Tiles.{program_bins}
use Rattle.answers.specs.Law.{Shows, too_large}
use Rattle.mojette.specs.Faults.{refusal_of}
use Rattle.format.specs.Listing.{refusal_text}
use Rattle.writing.specs.Splices.{filling}
use Rattle.answers.proofs.Listings.{unlawful_answer, oversize_answer, tile_listed}
use Rattle.answers.proofs.show.show.Goals as goal

pub returns-in-Err-clause-text : goal.returns-in-Err-clause-text
returns-in-Err-clause-text g c =
    c.write_refusal.ensures.text ∙ ap (λ text. filling text c.args.out.now) (ap refusal_text c.from.ensures
    ∙ unlawful_answer g.S.Sample.Kind g.S.Sample.Coded (g.S.Source.meaning c.args.source.now) (refusal_of c.in-Err.fault) c.in-Err.ensures)

pub returns-then-total-gt-PROGRAM_BINS-clause-text : goal.returns-then-total-gt-PROGRAM_BINS-clause-text
returns-then-total-gt-PROGRAM_BINS-clause-text g c =
    let e = ap bins_of c.in-Ok.ensures.1 in
    c.write_refusal-then-total-gt-PROGRAM_BINS.ensures.text ∙ ap (λ text. filling text c.args.out.now) (ap refusal_text c.from-then-total-gt-PROGRAM_BINS.ensures
    ∙ oversize_answer g.S.Sample.Kind g.S.Sample.Coded (g.S.Source.meaning c.args.source.now) c.in-Ok.ensures.0
    (omega (arith, c.if-total-gt-PROGRAM_BINS.true, c.total.ensures.value, e)))

pub returns-clause-text : goal.returns-clause-text
returns-clause-text g c =
    let e = ap bins_of c.in-Ok.ensures.1 in
    c.list_tile.ensures.text ∙ ap (λ text. filling text c.args.out.now)
    (tile_listed g.S.Sample.Kind g.S.Sample.Coded (g.S.Source.meaning c.args.source.now) c.in-Ok.ensures.0
    (omega (arith, c.if-total-gt-PROGRAM_BINS.false, c.total.ensures.value, e)))

pub returns-then-total-gt-PROGRAM_BINS-clause-law : goal.returns-then-total-gt-PROGRAM_BINS-clause-law
returns-then-total-gt-PROGRAM_BINS-clause-law g c = λ lawful.
    let K = g.S.Sample.Kind in
    let C = g.S.Sample.Coded in
    let m = g.S.Source.meaning c.args.source.now in
    let e = ap bins_of c.in-Ok.ensures.1 in
    let l : program_bins < bins_of (shape_of m) = omega (arith, c.if-total-gt-PROGRAM_BINS.true, c.total.ensures.value, e) in
    subst (Shows K C m) (oversize_answer K C m lawful l) (too_large l)

pub returns-clause-law : goal.returns-clause-law
returns-clause-law g c = λ lawful.
    let K = g.S.Sample.Kind in
    let C = g.S.Sample.Coded in
    let m = g.S.Source.meaning c.args.source.now in
    let e = ap bins_of c.in-Ok.ensures.1 in
    let l : bins_of (shape_of m) ≤ program_bins = omega (arith, c.if-total-gt-PROGRAM_BINS.false, c.total.ensures.value, e) in
    subst (Shows K C m) (tile_listed K C m lawful l) c.list_tile.ensures.law

pub returns-in-Err-clause-fits : goal.returns-in-Err-clause-fits
returns-in-Err-clause-fits g c =
    let m = g.S.Source.meaning c.args.source.now in
    let e = ap refusal_text c.from.ensures ∙ unlawful_answer g.S.Sample.Kind g.S.Sample.Coded m (refusal_of c.in-Err.fault) c.in-Err.ensures in
    omega (arith, ap length e, c.write_refusal.ensures.fits)

pub returns-then-total-gt-PROGRAM_BINS-clause-fits : goal.returns-then-total-gt-PROGRAM_BINS-clause-fits
returns-then-total-gt-PROGRAM_BINS-clause-fits g c =
    let m = g.S.Source.meaning c.args.source.now in
    let e = ap bins_of c.in-Ok.ensures.1 in
    let l : program_bins < bins_of (shape_of m) = omega (arith, c.if-total-gt-PROGRAM_BINS.true, c.total.ensures.value, e) in
    let same = ap refusal_text c.from-then-total-gt-PROGRAM_BINS.ensures ∙ oversize_answer g.S.Sample.Kind g.S.Sample.Coded m c.in-Ok.ensures.0 l in
    omega (arith, ap length same, c.write_refusal-then-total-gt-PROGRAM_BINS.ensures.fits)

pub returns-clause-fits : goal.returns-clause-fits
returns-clause-fits g c =
    let m = g.S.Source.meaning c.args.source.now in
    let e = ap bins_of c.in-Ok.ensures.1 in
    let l : bins_of (shape_of m) ≤ program_bins = omega (arith, c.if-total-gt-PROGRAM_BINS.false, c.total.ensures.value, e) in
    let same = tile_listed g.S.Sample.Kind g.S.Sample.Coded m c.in-Ok.ensures.0 l in
    omega (arith, ap length same, c.list_tile.ensures.fits)
