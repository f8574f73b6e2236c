use Rattle.std.proofs.Common.{length, sym, ap, ◌∙◌, arith}
use Rattle.std.proofs.lemmas.Fmt.{decimal_digit, decimal_step}
use Rattle.std.proofs.lemmas.List.{length_push}
use Rattle.writing.proofs.OfSplices.{writes_more, writes_same}
use Rattle.writing.proofs.writer.Writer.+put_decimal.Goals as goal

pub put-requires : goal.put-requires
put-requires t c = omega (arith, c.requires, ap length (decimal_digit c.args.number c.if-number-lt10.true))

pub put_decimal-requires : goal.put_decimal-requires
put_decimal-requires t c =
    let e = ap length (decimal_step c.args.number c.if-number-lt10.false (omega arith)) ∙ length_push _ _ in
    omega (arith, c.requires)

pub put-requires-else-number-lt10 : goal.put-requires-else-number-lt10
put-requires-else-number-lt10 t c =
    let e = ap length (decimal_step c.args.number c.if-number-lt10.false (omega arith)) ∙ length_push _ _ in
    omega (arith, c.requires, c.put_decimal.ensures.filled, c.put_decimal.ensures.same_length)

pub returns-then-number-lt10 : goal.returns-then-number-lt10
returns-then-number-lt10 t c = writes_same (sym (decimal_digit c.args.number c.if-number-lt10.true)) c.put.ensures

pub returns-else-number-lt10 : goal.returns-else-number-lt10
returns-else-number-lt10 t c =
    writes_same (sym (decimal_step c.args.number c.if-number-lt10.false (omega arith)))
    (writes_more c.put_decimal.ensures c.put-else-number-lt10.ensures)
