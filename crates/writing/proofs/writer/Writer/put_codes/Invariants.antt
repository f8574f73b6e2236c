use Rattle.std.proofs.Common.{take}
use Rattle.samples.specs.Reading.{code}
use Rattle.writing.specs.Lines.{spaced}
use Rattle.writing.specs.Writers.{Writes}
use Rattle.writing.proofs.writer.Writer.put_codes.Given as goal

abbrev pub invariant-loop-sample : goal.invariant-loop-sample
invariant-loop-sample g l = Writes (spaced (code g.K.Coded) (take l.sample-index l.samples)) l.initial.self l.self
