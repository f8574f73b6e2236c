use Rattle.std.proofs.Common.{take}
use Rattle.samples.specs.Reading.{code}
use Rattle.source.specs.Questions.{place_at}
use Rattle.format.specs.Texts.{bin_sums}
use Rattle.writing.specs.Lines.{spaced}
use Rattle.writing.specs.Writers.{Writes}
use Rattle.writing.proofs.writer.Writer.put_bins.Given as goal

abbrev pub invariant-loop-b : goal.invariant-loop-b
invariant-loop-b g l =
    let m = g.S.Source.meaning l.source in
    Writes (spaced (code g.K.Coded) (take l.b (bin_sums g.K.Kind m.P m.Q (place_at m l.i)))) l.initial.self l.self
