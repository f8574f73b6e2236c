use Rattle.std.proofs.Common.{◌≡◌}
use Rattle.mojette.specs.Meaning.{bins_of}
use Rattle.plan.specs.Shapes.{shape}
use Rattle.tile.specs.Seals.{singles_queued}
use Rattle.tile.proofs.seal.queue_singles.Given as goal

abbrev pub invariant-loop-at : goal.invariant-loop-at
invariant-loop-at g l = (l.state, l.queue) ≡ singles_queued (bins_of (shape l.plan)) l.at (g.T.Tally.counts_by (shape l.plan) l.tally l.counts) (l.initial.state, l.initial.queue)
