use Rattle.std.proofs.Common.{◌≡◌, ◌*◌, ◌≤◌, [], length, take}
use Rattle.plan.specs.Laid.{records_of}
use Rattle.format.specs.Listing.{lost_text}
use Rattle.writing.proofs.tile.lost_len.Given as goal

abbrev pub invariant-loop-i : goal.invariant-loop-i
invariant-loop-i l = (l.len ≡ length (lost_text 0 (records_of (take l.i l.places)) [])) × (l.len ≤ 49 * l.i)
