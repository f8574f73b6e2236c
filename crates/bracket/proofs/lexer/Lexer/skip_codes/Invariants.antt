use Rattle.bracket.proofs.OfSkips.{Passed}
use Rattle.bracket.proofs.lexer.Lexer.skip_codes.Given as goal

-- what is left to pass gives what the whole gave at first
abbrev pub invariant-loop-i : goal.invariant-loop-i
invariant-loop-i g l = Passed g.K.Kind g.K.Coded l.count l._i l.initial.self l.self
