use Rattle.std.proofs.Common.{◌≡◌, ◌+◌, ◌-◌, ◌*◌, drop}
use Rattle.mojette.specs.Bins.{bins}
use Rattle.plan.specs.Laid.{direction_of, turned}
use Rattle.plan.specs.Sums.{SumUpTo}
use Rattle.plan.proofs.project.add_up.Given as goal

abbrev pub invariant-loop-l : goal.invariant-loop-l
invariant-loop-l g l =
    SumUpTo g.K.Kind l.size.columns l.size.rows (direction_of l.place) l.picture (l.l * l.size.columns) l.sums
    × (drop (bins l.size.columns l.size.rows (direction_of l.place)) l.sums ≡ drop (bins l.size.columns l.size.rows (direction_of l.place)) l.initial.sums)

abbrev pub invariant-loop-k : goal.invariant-loop-k
invariant-loop-k g l =
    SumUpTo g.K.Kind l.size.columns l.size.rows (direction_of l.place) l.picture (l.l * l.size.columns + l.k) l.sums
    × (drop (bins l.size.columns l.size.rows (direction_of l.place)) l.sums ≡ drop (bins l.size.columns l.size.rows (direction_of l.place)) l.initial.sums)
    × (l.bin ≡ (l.size.columns - l.k) * l.place.q + turned l.place.leftward l.size.rows l.l * l.place.slope)
