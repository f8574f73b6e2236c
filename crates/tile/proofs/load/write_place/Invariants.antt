use Rattle.std.proofs.Common.{◌≡◌, ◌+◌, ◌-◌}
use borrow.Rule.Slice.PartMut.{put_mid}
use Rattle.law.specs.Steps.{written}
use Rattle.tile.specs.Loads.{bin_value}
use Rattle.tile.proofs.load.write_place.Given as goal

-- the sums, with the part that is written put back in its place
abbrev pub invariant-loop-b : goal.invariant-loop-b
invariant-loop-b g l =
    put_mid l.from (l.from + l.bins - l.from) l.fn.sums l.sum-items ≡ written l.from l.b (bin_value g.S.Sample.Kind (g.S.Source.meaning l.source) l.i) l.fn.sums
