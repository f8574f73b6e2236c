use Rattle.std.proofs.Common.{length, ◌-◌}
use Rattle.mojette.specs.Bounds.{most_places}
use Rattle.bracket.specs.Lines.{held_lines}
use Rattle.bracket.proofs.OfPlaces.{ReadOn}
use Rattle.bracket.proofs.lexer.Lexer.places.Given as goal

-- what is left to read, after the places that were read, gives what the whole gave at first
abbrev pub invariant-loop-self : goal.invariant-loop-self
invariant-loop-self g l = ReadOn g.K.Kind g.K.Coded l.size l.initial.self l.self (held_lines l.lines) l.last

abbrev pub decreases-loop-self : goal.decreases-loop-self
decreases-loop-self g l = most_places - length (held_lines l.lines)
