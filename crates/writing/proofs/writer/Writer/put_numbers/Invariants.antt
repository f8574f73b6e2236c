use Rattle.std.proofs.Common.{take, decimal}
use Rattle.writing.specs.Lines.{spaced}
use Rattle.writing.specs.Writers.{Writes}
use Rattle.writing.proofs.writer.Writer.put_numbers.Given as goal

abbrev pub invariant-loop-number : goal.invariant-loop-number
invariant-loop-number l = Writes (spaced decimal (take l.number-index l.numbers)) l.initial.self l.self
