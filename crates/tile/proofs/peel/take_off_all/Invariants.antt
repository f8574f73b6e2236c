use Rattle.std.proofs.Common.{◌≡◌}
use Rattle.peeling.specs.Steps.{take_off_all}
use Rattle.plan.specs.Shapes.{shape}
use Rattle.law.specs.Positions.{incidence}
use Rattle.law.specs.Steps.{world_of}
use Rattle.walk.specs.Lying.{starts}
use Rattle.notes.specs.Missing.{Missing, Misses, found_below}
use Rattle.tile.specs.Worlds.{IsStillLent, told}
use Rattle.tile.proofs.peel.take_off_all.Given as goal

-- v, and the pixel, are taken off the bins of the first places
abbrev pub invariant-loop-i : goal.invariant-loop-i
invariant-loop-i g l = record {
  lent : IsStillLent l.initial.tables l.tables;
  marks : l.tables.marks.now ≡ l.initial.tables.marks.now;
  world : world_of l.state (told g.T.Tally (shape l.plan) l.tally l.tables)
      ≡ take_off_all g.K.Kind (incidence (shape l.plan)) l.pixel.cell l.v (starts l.plan l.i) (world_of l.initial.state (told g.T.Tally (shape l.plan) l.initial.tally l.initial.tables));
  knows : (m : Missing) → g.T.Tally.knows (shape l.plan) m l.initial.tally → Misses (shape l.plan) m l.pixel.cell → g.T.Tally.knows (shape l.plan) (found_below (starts l.plan l.i) l.pixel.cell m) l.tally;
}
