use Rattle.std.proofs.Common.{arith}
use Rattle.std.proofs.lemmas.List.{length-drop}
use Rattle.bracket.proofs.lexer.Lexer.byte.Goals as goal

pub returns : goal.returns
returns c = omega (arith, length-drop c.args.self.now.at c.args.self.now.text.now)
