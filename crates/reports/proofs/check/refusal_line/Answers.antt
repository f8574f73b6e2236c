use Rattle.std.proofs.Common.{◌≡◌, ◌++◌, codes as text, string_bytes, ◌∙◌, rules}
use Rattle.std.specs.Result.{IfOk}
use Rattle.std.proofs.lemmas.Result.{IfOk-weaker}
use Rattle.mojette.specs.Faults.{refusal_of}
use Rattle.format.specs.Listing.{refusal_text}
use Rattle.reports.proofs.OfChecks.{refusal_words, line_of}
use Rattle.reports.proofs.check.refusal_line.Goals as goal

pub returns : goal.returns
returns c =
    let h : IfOk c.format.result (λ s. string_bytes s ≡ text "(" ++ (refusal_words c.from-refusal.result ++ text ")\n")) = search rules in
    IfOk-weaker c.format.result (λ s. string_bytes s ≡ text "(" ++ (refusal_words c.from-refusal.result ++ text ")\n")) (λ s. string_bytes s ≡ refusal_text (refusal_of c.args.fault))
    (λ s e. e ∙ line_of c.from-refusal.ensures) h
