use Rattle.std.proofs.Common.{sym}
use Rattle.source.proofs.Cuts.{length_cut}
use Rattle.source.proofs.rack_source.RackSource.sizes.Goals as goal

pub returns : goal.returns
returns g c =
    let s = c.args.self.now in
    λ j. record { columns = c.columns.ensures j; rows = c.rows.ensures j; places = sym (length_cut s.plan.size.columns s.plan.size.rows s.records.now s.run.now) j }
