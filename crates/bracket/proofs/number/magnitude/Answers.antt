use Rattle.std.proofs.Common.{sym, arith}
use Rattle.bracket.proofs.OfNumerals.{read_more, digits_more}
use Rattle.bracket.proofs.number.magnitude.Goals as goal

pub loop-d-preserved : goal.loop-d-preserved
loop-d-preserved c = (
  omega (arith, c.min-n.ensures),
  read_more c.args.digits.now c.loop-d.d-index c.loop-d.n _ c.loop-d-test.true (omega (arith, c.min-n.ensures, c.from.ensures)) c.loop-d.invariant.1,
  digits_more c.args.digits.now c.loop-d.d-index c.loop-d-test.true (sym c.if-not-is_ascii_digit.ensures.value) c.loop-d.invariant.2,
)
