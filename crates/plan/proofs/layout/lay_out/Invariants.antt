use Rattle.std.proofs.Common.{◌≡◌, ◌*◌, ◌≤◌, length, take}
use Rattle.mojette.specs.Bins.{all_bins}
use Rattle.mojette.specs.Bounds.{most_bins, most_places}
use Rattle.plan.specs.Layouts.{laid_out}
use Rattle.plan.proofs.layout.lay_out.Given as goal

abbrev pub invariant-loop-i : goal.invariant-loop-i
invariant-loop-i l =
    (take l.i l.places ≡ laid_out l.size.columns l.size.rows 0 (take l.i l.records))
    × (l.total ≡ all_bins l.size.columns l.size.rows (take l.i l.records))
    × (l.total ≤ l.i * most_bins)
    × (l.i ≤ l.total)
    × (length l.places ≡ most_places)
