use Rattle.std.proofs.Common.{◌≤◌}
use Rattle.mojette.specs.Bins.{start}
use Rattle.plan.specs.Laid.{records_of}
use Rattle.plan.specs.Shapes.{places_of}
use Rattle.walk.proofs.lookups.place_of.Given as goal

abbrev pub invariant-loop-i : goal.invariant-loop-i
invariant-loop-i l = start l.plan.size.columns l.plan.size.rows (records_of (places_of l.plan)) l.i ≤ l.at
