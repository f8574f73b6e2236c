use Rattle.reports.proofs.OfFaults.{knows_faults}
use Rattle.reports.proofs.faults.fault_of.Goals as goal

pub returns-clause-law : goal.returns-clause-law
returns-clause-law c = knows_faults
