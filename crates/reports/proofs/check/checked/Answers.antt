use Rattle.reports.proofs.OfChecks.{checks_lawful, checks_refused}
use Rattle.reports.proofs.check.checked.Goals as goal

pub returns-in_ok-listing-in-Ok : goal.returns-in_ok-listing-in-Ok
returns-in_ok-listing-in-Ok c = checks_lawful _ c.in-Ok.plan _ _ c.in-Ok.ensures.plan c.in_ok-listing-in-Ok.ensures c.new.ensures.bytes

pub returns-in_ok-remark-in-Err : goal.returns-in_ok-remark-in-Err
returns-in_ok-remark-in-Err c = checks_refused _ c.in-Err.fault _ _ c.in-Err.ensures.plan c.in_ok-listing-in-Err.ensures c.in_ok-remark-in-Err.ensures
