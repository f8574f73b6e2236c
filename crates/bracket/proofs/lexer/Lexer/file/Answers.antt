use Rattle.std.proofs.lemmas.Result.{err_from_is_err_and}
use Rattle.bracket.proofs.OfFile.{stops_at_lines, all_read}
use Rattle.bracket.proofs.lexer.Lexer.file.Goals as goal

pub returns-in_err-lines : goal.returns-in_err-lines
returns-in_err-lines g c =
    let p = err_from_is_err_and c.from_residual-in_err-lines.result c.from_residual-in_err-lines.ensures.1 in
    rw (p.1, p.2) (stops_at_lines g.K.Kind g.K.Coded c.args.self.now c.head.new.self c.in_ok-size.size c.in_ok-size.ensures _ _ c.places.new.self _ c.in_err-lines.ensures)

pub returns : goal.returns
returns g c = all_read g.K.Kind g.K.Coded c.args.self.now c.head.new.self c.in_ok-size.size c.in_ok-size.ensures c.places.new.self c.in_ok-lines.lines c.in_ok-lines.ensures
