use Rattle.std.proofs.Common.{[], take}
use Rattle.plan.specs.Laid.{records_of}
use Rattle.format.specs.Listing.{lost_text}
use Rattle.writing.specs.Writers.{Writes}
use Rattle.writing.proofs.writer.Writer.put_lost.Given as goal

abbrev pub invariant-loop-i : goal.invariant-loop-i
invariant-loop-i l = Writes (lost_text 0 (records_of (take l.i l.places)) []) l.initial.self l.self
