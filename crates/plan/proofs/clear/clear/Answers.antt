use Rattle.std.proofs.Common.{rules}
use Rattle.plan.proofs.Calls.{all_same}
use Rattle.plan.proofs.clear.clear.Goals as goal

pub returns : goal.returns
returns g c = all_same _ g.K.Kind.zero (λ p x q called. search rules) _ c.fill_with.new.self _ c.fill_with.ensures.ran.1
