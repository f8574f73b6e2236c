use Rattle.std.proofs.Common.{◌≡◌, ℕ, ◌+◌, ◌<◌, false}
use Rattle.mojette.specs.Bins.{start}
use Rattle.plan.specs.Laid.{records_of}
use Rattle.plan.specs.Shapes.{places_of}
use Rattle.tile.proofs.Leftovers.{left_at}
use Rattle.tile.proofs.finish.first_left.Given as goal

abbrev pub invariant-loop-i : goal.invariant-loop-i
invariant-loop-i g l = (x : ℕ) → x < start l.plan.size.columns l.plan.size.rows (records_of (places_of l.plan)) l.i → left_at g.K.Kind l.sums x ≡ false

abbrev pub invariant-loop-b : goal.invariant-loop-b
invariant-loop-b g l = (x : ℕ) → x < start l.plan.size.columns l.plan.size.rows (records_of (places_of l.plan)) l.i + l.b → left_at g.K.Kind l.sums x ≡ false
