use Rattle.std.proofs.Common.{take}
use Rattle.writing.specs.Files.{place_lines}
use Rattle.writing.specs.Writers.{Writes}
use Rattle.writing.proofs.writer.Writer.put_places.Given as goal

abbrev pub invariant-loop-i : goal.invariant-loop-i
invariant-loop-i g l =
    let m = g.S.Source.meaning l.source in
    Writes (place_lines g.K.Kind g.K.Coded m.P m.Q (take l.i m.places)) l.initial.self l.self
