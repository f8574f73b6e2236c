use Rattle.std.proofs.Common.{length, ap, ◌∙◌, arith}
use Rattle.mojette.specs.Faults.{refusal_of}
use Rattle.format.specs.Listing.{refusal_text}
use Rattle.writing.specs.Splices.{filling}
use Rattle.bracket.specs.Files.{file_meaning}
use Rattle.answers.proofs.Texts.{file_answer, file_prints, none_answer, none_prints}
use Rattle.answers.proofs.answer.answer_as.Goals as goal

pub returns-in-Ok : goal.returns-in-Ok
returns-in-Ok g c =
    let K = g.K.Kind in
    let C = g.K.Coded in
    let t = c.args.text.now in
    let m = file_meaning {K = K} c.in-Ok.file in
    let e = file_answer K C t m c.in-Ok.ensures.read in record {
      text = c.show.ensures.text ∙ ap (λ text. filling text c.args.out.now) e;
      fits = omega (arith, ap length e, c.show.ensures.fits);
      law = file_prints K C t m c.in-Ok.ensures.read c.show.ensures.law;
    }

pub returns-in-Err : goal.returns-in-Err
returns-in-Err g c =
    let K = g.K.Kind in
    let C = g.K.Coded in
    let t = c.args.text.now in
    let q = refusal_of c.in-Err.fault in
    let e = ap refusal_text c.from.ensures ∙ none_answer K C t q c.in-Err.ensures.read in record {
      text = c.write_refusal.ensures.text ∙ ap (λ text. filling text c.args.out.now) e;
      fits = omega (arith, ap length e, c.write_refusal.ensures.fits);
      law = none_prints K C t q c.in-Err.ensures.read;
    }
