use Rattle.std.proofs.Common.{◌≡◌, ◌^◌, ◌<◌, drop}
use Rattle.format.specs.Numbers.{read_on}
use Rattle.reports.specs.Listings.{capped}
use Rattle.reports.proofs.listing.value_of.Given as goal

abbrev pub invariant-loop-digit : goal.invariant-loop-digit
invariant-loop-digit l = (l.value < 2 ^ 64) × (capped (read_on l.value (drop l.digit-index l.digits)) ≡ capped (read_on 0 l.digits))
