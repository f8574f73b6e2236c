use Rattle.std.proofs.Common.{length, sym, ap, ◌∙◌, arith}
use Rattle.std.proofs.lemmas.Fmt.{decimal_digit, decimal_step, length-decimal-le}
use Rattle.std.proofs.lemmas.List.{length_push}
use Rattle.writing.proofs.writer.+decimal_len.Goals as goal

pub returns-then-number-lt10-clause-value : goal.returns-then-number-lt10-clause-value
returns-then-number-lt10-clause-value t c = sym (ap length (decimal_digit c.args.number c.if-number-lt10.true))

pub returns-else-number-lt10-clause-value : goal.returns-else-number-lt10-clause-value
returns-else-number-lt10-clause-value t c =
    let e = ap length (decimal_step c.args.number c.if-number-lt10.false (omega arith)) ∙ length_push _ _ in
    omega (arith, c.decimal_len.ensures.value)

pub returns-else-number-lt10-clause-short : goal.returns-else-number-lt10-clause-short
returns-else-number-lt10-clause-short t c =
    let e = ap length (decimal_step c.args.number c.if-number-lt10.false (omega arith)) ∙ length_push _ _ in
    let l = length-decimal-le 20 c.args.number (omega arith) (omega arith) (omega arith) in
    omega (arith, c.decimal_len.ensures.value)
