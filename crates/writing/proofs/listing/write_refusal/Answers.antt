use Rattle.std.proofs.Common.{◌≡◌, length, ap, ◌∙◌, rules, arith}
use Rattle.format.specs.Listing.{refusal_text}
use Rattle.writing.proofs.OfFilling.{filled, too_short, refusal_line}
use Rattle.writing.proofs.OfSplices.{writes_same}
use Rattle.writing.proofs.listing.write_refusal.Goals as goal

pub returns-then-out-needed-clause-text : goal.returns-then-out-needed-clause-text
returns-then-out-needed-clause-text c =
    too_short (refusal_text c.args.refusal) c.args.out.now _ (c.line_len-needed.ensures.value ∙ ap length (refusal_line c.args.refusal)) c.if-out-needed.true

pub returns-clause-text : goal.returns-clause-text
returns-clause-text c =
    let t = refusal_text c.args.refusal in
    let e : c.line_len-needed.result ≡ length t = c.line_len-needed.ensures.value ∙ ap length (refusal_line c.args.refusal) in
    let w = writes_same (refusal_line c.args.refusal) c.put_line.ensures in
    let same = w.same_table in
    filled t c.args.out.now _ _ c.new-writer.ensures.empty c.new-writer.ensures.cells w (search rules) e (omega (arith, c.if-out-needed.false))

pub returns-then-out-needed-clause-fits : goal.returns-then-out-needed-clause-fits
returns-then-out-needed-clause-fits c =
    let e = ap length (refusal_line c.args.refusal) in
    omega (arith, c.line_len-needed.ensures.value, c.line_len-needed.ensures.short)

pub returns-clause-fits : goal.returns-clause-fits
returns-clause-fits c =
    let e = ap length (refusal_line c.args.refusal) in
    omega (arith, c.line_len-needed.ensures.value, c.line_len-needed.ensures.short)
