use Rattle.std.proofs.Common.{sym, subst}
use Rattle.plan.specs.declared.criterion.Criterion.{Criterion}
use Rattle.plan.specs.Criteria.{KatzHolds}
use Rattle.plan.specs.Shapes.{shape}
use Rattle.plan.proofs.Enough.{katz_holds}
use Rattle.plan.proofs.plan.Plan.criterion.Goals as goal

pub returns : goal.returns
returns g c =
    let s = shape c.args.self.now in
    record {
      value = c.judge.ensures;
      katz = subst (λ (r : Criterion). KatzHolds g.K.Kind s r.enough) (sym c.judge.ensures) (katz_holds s g.K.Kind c.args.self.now.lawful);
    }
