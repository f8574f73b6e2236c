use Rattle.std.proofs.Common.{◌≡◌, ◌≤◌, take, drop, ap, sym, subst, ◌∙◌}
use Rattle.samples.specs.contracts.codes.SumWordCoded.TheImpl.{ghosts as sum_codes}
use Rattle.mojette.specs.Bounds.{most_positions}
use Rattle.format.specs.Format.{read_file}
use Rattle.bracket.specs.Files.{asked_file}
use Rattle.exported.specs.Reading.{loading, MeansTheFile}
use Rattle.exported.specs.Told.{told}
use Rattle.exported.proofs.Asked.{asked_rack}
use Rattle.exported.proofs.Beyond.{asking_leaves}
use Rattle.exported.proofs.Refusals.{told_few}
use Rattle.exported.proofs.reading.mojette_ask.Goals as goal

pub returns-clause-beyond : goal.returns-clause-beyond
returns-clause-beyond c =
    let made = asked_file (read_file sum_codes c.args.text.now) in
    let old = c.args.sums.now in
    let number : c.tell.result ≡ (told (loading made old).answer).0 = ap (λ a. a.0) (c.tell.ensures ∙ ap told c.load_file-answer.ensures.answer) in
    subst (λ n. drop n c.load_file-answer.new.sums ≡ drop n old) (sym number)
    (ap (drop (told (loading made old).answer).0) c.load_file-answer.ensures.sums ∙ asking_leaves made old)

pub returns-clause-rack : goal.returns-clause-rack
returns-clause-rack c = λ no_refusal.
    let made = asked_file (read_file sum_codes c.args.text.now) in
    let left = loading made c.args.sums.now in
    let so = c.tell.ensures ∙ ap told c.load_file-answer.ensures.answer in
    let run : take c.tell.result c.load_file-answer.new.sums ≡ take (told left.answer).0 left.sums =
    ap (λ n. take n c.load_file-answer.new.sums) (ap (λ a. a.0) so) ∙ ap (take (told left.answer).0) c.load_file-answer.ensures.sums in
    subst (MeansTheFile made) (sym run)
    (asked_rack c.args.text.now c.load_file-answer.ensures.law c.args.sums.now (sym (ap (λ a. a.1.number) so) ∙ no_refusal))

pub returns-clause-few : goal.returns-clause-few
returns-clause-few c = subst (λ n. n ≤ most_positions) (sym (ap (λ a. a.0) c.tell.ensures)) (told_few c.load_file-answer.result most_positions c.load_file-answer.ensures.few)
