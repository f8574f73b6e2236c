use Rattle.std.proofs.Common.{◌≡◌, replicate}
use Rattle.tile.proofs.buffers.zeros.Given as goal

abbrev pub invariant-loop : goal.invariant-loop
invariant-loop g l = l.zeros.items ≡ replicate l.counter g.K.Kind.zero
