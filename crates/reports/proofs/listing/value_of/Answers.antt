use Rattle.std.proofs.Common.{◌≡◌, sym, ◌∙◌, arith}
use Rattle.std.proofs.lemmas.List.{at_drop_all}
use Rattle.format.specs.Numbers.{read_on}
use Rattle.reports.specs.Listings.{capped}
use Rattle.reports.proofs.OfListings.{value_more}
use Rattle.reports.proofs.listing.value_of.Goals as goal

pub loop-digit-preserved : goal.loop-digit-preserved
loop-digit-preserved c = (
  omega (arith, c.saturating_add-value.ensures),
  value_more c.args.digits.now c.loop-digit.digit-index c.loop-digit.value _ c.loop-digit-test.true
      (omega (arith, c.saturating_add-value.ensures, c.saturating_mul.ensures, c.saturating_sub.ensures, c.from.ensures)) c.loop-digit.invariant.1,
)

pub returns : goal.returns
returns c =
    let last = at_drop_all (λ s. capped (read_on c.loop-digit.value s)) c.args.digits.now c.loop-digit.digit-index (omega (arith, c.loop-digit-test.false)) in
    let whole : c.loop-digit.value ≡ capped c.loop-digit.value = omega (arith, c.loop-digit.invariant.0) in
    whole ∙ sym last ∙ c.loop-digit.invariant.1
