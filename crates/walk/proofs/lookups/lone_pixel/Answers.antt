use Rattle.std.proofs.Common.{sym, ap, ◌∙◌, arith}
use Rattle.plan.specs.Laid.{place_at as nth}
use Rattle.walk.proofs.Finding.{lone_in_whole, none_in_lost}
use Rattle.walk.proofs.Places.{line_of}
use Rattle.walk.proofs.lookups.lone_pixel.Goals as goal

pub returns-then-not-is_whole-clause-is : goal.returns-then-not-is_whole-clause-is
returns-then-not-is_whole-clause-is c =
    none_in_lost c.args.plan.now c.args.marks.now c.args.at c.in_ok-i.i c.in_ok-i.bin c.in_ok-i.ensures.stands
    (omega (arith, c.pixels.ensures, c.if-marks-pixels.false)) (nth c.places.result.now c.in_ok-i.i) (ap (λ ys. nth ys c.in_ok-i.i) c.places.ensures.value)
    (sym c.is_whole.ensures ∙ c.if-not-is_whole.true)

pub invariant_of-lone : goal.invariant_of-lone
invariant_of-lone c =
    let stands = c.in_ok-i.ensures.stands in
    record {
      on_tile = line_of c.args.plan.now c.in_ok-i.i stands.known c.size-size.result.columns c.size-size.result.rows (nth c.places.result.now c.in_ok-i.i)
          c.size-size.ensures.columns c.size-size.ensures.rows (ap (λ ys. nth ys c.in_ok-i.i) c.places.ensures.value) c.in_ok-i.bin stands.inside;
    }

pub returns-clause-is : goal.returns-clause-is
returns-clause-is c =
    lone_in_whole c.args.plan.now c.args.marks.now c.args.at c.in_ok-i.i c.in_ok-i.bin c.in_ok-i.ensures.stands
    (omega (arith, c.pixels.ensures, c.if-marks-pixels.false)) (nth c.places.result.now c.in_ok-i.i) (ap (λ ys. nth ys c.in_ok-i.i) c.places.ensures.value)
    c.size-size.result.columns c.size-size.result.rows c.lone.result c.size-size.ensures.columns c.size-size.ensures.rows (sym c.is_whole.ensures ∙ c.if-not-is_whole.false) c.lone.ensures.is
