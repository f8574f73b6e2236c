use Rattle.std.proofs.Common.{◌≡◌}
use Rattle.plan.specs.Shapes.{shape}
use Rattle.law.specs.Steps.{world_of}
use Rattle.law.specs.Turns.{turns}
use Rattle.notes.specs.Missing.{by_marks}
use Rattle.tile.specs.Worlds.{IsStillLent, told}
use Rattle.tile.proofs.alone.peel_all.Given as goal

-- So many turns were made.
abbrev pub invariant-loop : goal.invariant-loop
invariant-loop g l = record {
  lent : IsStillLent l.initial.tables l.tables;
  world : world_of l.state (told g.T.Tally (shape l.plan) l.tally l.tables)
      ≡ turns g.K.Kind (shape l.plan) l.counter (world_of l.initial.state (told g.T.Tally (shape l.plan) l.initial.tally l.initial.tables));
  knows : g.T.Tally.knows (shape l.plan) (by_marks (shape l.plan) l.tables.marks.now) l.tally;
}
