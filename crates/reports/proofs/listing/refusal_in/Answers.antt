use Rattle.reports.proofs.OfListings.{reads_refusals}
use Rattle.reports.proofs.listing.refusal_in.Goals as goal

pub returns-then-not-starts_with-clause-law : goal.returns-then-not-starts_with-clause-law
returns-then-not-starts_with-clause-law c = reads_refusals

pub returns-clause-law : goal.returns-clause-law
returns-clause-law c = reads_refusals
