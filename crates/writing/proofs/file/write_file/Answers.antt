use Rattle.std.proofs.Common.{◌≡◌, length, sym, ap, ◌∙◌, rules, arith}
use Rattle.format.specs.Texts.{file_text}
use Rattle.format.proofs.Written.{reads_back}
use Rattle.writing.specs.Files.{unless}
use Rattle.writing.proofs.OfFilling.{filled}
use Rattle.writing.proofs.OfFiles.{causes_of}
use Rattle.writing.proofs.OfReading.{file_read}
use Rattle.writing.proofs.file.write_file.Goals as goal

pub returns-clause-value : goal.returns-clause-value
returns-clause-value g c =
    let m = g.S.Source.meaning c.args.source.now in
    let t = file_text g.K.Kind g.K.Coded m in
    let plans = c.in_ok-plan.ensures in
    let e : c.file_len-needed.result ≡ length t = c.file_len-needed.ensures.value m plans.1 in
    let same = c.put_file.ensures.same_table in
    filled t c.args.out.now _ _ c.new-writer.ensures.empty c.new-writer.ensures.cells c.put_file.ensures (search rules) e (omega (arith, c.if-out-needed.false))
    ∙ ap (λ v. unless v t c.args.out.now) (sym plans.0)

pub returns-clause-read_back : goal.returns-clause-read_back
returns-clause-read_back g c =
    let m = g.S.Source.meaning c.args.source.now in
    let causes = causes_of c.in_ok-plan.plan m c.in_ok-plan.ensures.1 c.file_len-needed.ensures.bytes in
    file_read g.K.Kind g.K.Coded (reads_back g.K.Kind g.K.Coded g.K.Coded.naming.word) m causes c.file_len-needed.result c.args.out.now _ (returns-clause-value g c)
