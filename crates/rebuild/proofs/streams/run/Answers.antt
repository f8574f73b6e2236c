use Rattle.std.proofs.Common.{◌≡◌, IfSome, take, ℕ, ◌<◌, ◌≤◌, List, length, Option, None, Some, sym, ap, ◌∙◌, subst, ⊎_elim, ltb, arith}
use Rattle.std.proofs.lemmas.Bool.{cases_lt, cond-true, lt-ltb}
use Rattle.std.proofs.lemmas.List.{length-take-le, take_all}
use Rattle.std.specs.Io.KnownBytes.{Appends}
use Rattle.format.specs.Listing.{refusal_text}
use Rattle.bracket.specs.Kinds.{kind_named}
use Rattle.mojette.specs.Refusals.{oversize}
use Rattle.answers.specs.Answers.{program_answer, answer_as}
use Rattle.rebuild.specs.Fronts.{AppendsFront}
use Rattle.rebuild.proofs.streams.run.Goals as goal

-- too long an input has one answer
over : (t : List ℕ) → 65536 < length t → program_answer t ≡ refusal_text oversize
over t h = cond-true (ltb 65536 (length t)) (refusal_text oversize) (answer_as (kind_named t) t) (lt-ltb 65536 (length t) h)

-- so that one byte more than may be is enough
same : (input : List ℕ) → program_answer (take 65537 input) ≡ program_answer input
same input = ⊎_elim
    (λ (h : 65536 < length input). let l = length-take-le 65537 input (omega arith) in over (take 65537 input) (omega arith) ∙ sym (over input h))
    (λ (h : length input ≤ 65536). ap program_answer (take_all 65537 input (omega arith)))
    (cases_lt 65536 (length input))

-- what holds of the answer to the bytes that were read holds of the answer to the whole input
answered : (o : Option (List ℕ)) (t : List ℕ) (P : List ℕ → Type 0) → IfSome o (λ input. t ≡ take 65537 input) → P (program_answer t) → IfSome o (λ input. P (program_answer input))
answered None t P e p = tt
answered (Some input) t P e p = subst P (ap program_answer e ∙ same input) p

pub returns-in-Ok-write_answer-clause-written : goal.returns-in-Ok-write_answer-clause-written
returns-in-Ok-write_answer-clause-written g c =
    let input = g.R.Read.remaining c.args.reader in
    let old = g.W.Write.contents c.args.writer.now in
    let new = g.W.Write.contents c.write_answer.new.writer in
    let front = subst (λ t. IfSome input (λ bs. t ≡ take 65537 bs)) (sym c.deref.ensures.value) c.in-Ok.ensures in
    answered input c.deref.result.now (Appends old new) front c.in-Ok-write_answer.ensures.written

pub returns-clause-failed : goal.returns-clause-failed
returns-clause-failed g c =
    let input = g.R.Read.remaining c.args.reader in
    let old = g.W.Write.contents c.args.writer.now in
    let new = g.W.Write.contents c.write_answer.new.writer in
    let front = subst (λ t. IfSome input (λ bs. t ≡ take 65537 bs)) (sym c.deref.ensures.value) c.in-Ok.ensures in
    answered input c.deref.result.now (AppendsFront old new) front c.in-Err-write_answer.ensures.failed
