use Rattle.std.proofs.Common.{◌∙◌}
use Rattle.source.proofs.Cuts.{same_record}
use Rattle.source.proofs.rack_source.RackSource.place.Goals as goal

pub returns : goal.returns
returns g c =
    let s = c.args.self.now in
    c.place_of.ensures ∙ same_record s.plan.size.columns s.plan.size.rows s.records.now s.run.now c.args.i
