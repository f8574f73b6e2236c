use Rattle.std.proofs.Common.{◌≡◌, ◌+◌, ◌-◌, ◌^◌, ◌<◌, ◌++◌, drop, sym, refl, ap, ◌∙◌, subst, arith}
use Rattle.samples.specs.Codes.{hex_text}
use Rattle.samples.proofs.Digits.{length-hex_text}
use Rattle.samples.proofs.Loops.{less_left, digit_written}
use Rattle.samples.proofs.codes.write_code.Goals as goal

pub returns-then-out-width : goal.returns-then-out-width
returns-then-out-width g c = (omega (arith, c.digits-width.ensures, length-hex_text g.K.Coded.width (g.K.Coded.number c.args.sample)), refl)

pub loop-i-preserved : goal.loop-i-preserved
loop-i-preserved g c =
    let v = c.loop-i.invariant in
    let e : c.loop-i.i ≡ c.loop-i.i - 1 + 1 = omega arith in
    let below : c.loop-i.rest < 16 ^ (c.loop-i.i - 1 + 1) = subst (λ k. c.loop-i.rest < 16 ^ k) e v.0 in (
      less_left (c.loop-i.i - 1) c.loop-i.rest below,
      digit_written (c.loop-i.i - 1) c.loop-i.rest c.hex_byte.result c.loop-i.out below (omega arith) c.hex_byte.ensures
          ∙ ap (λ k. hex_text k c.loop-i.rest ++ drop k c.loop-i.out) (sym e) ∙ v.1,
    )
