use Rattle.std.proofs.lemmas.Result.{err_from_is_err_and}
use Rattle.bracket.proofs.OfFile.{file_told, fault_told}
use Rattle.bracket.proofs.file.lines_of.Goals as goal

pub returns-in_err-file : goal.returns-in_err-file
returns-in_err-file g c =
    let p = err_from_is_err_and c.from_residual.result c.from_residual.ensures.1 in
    rw (p.1, p.2) (fault_told g.K.Kind g.K.Coded c.new-lexer.result c.file.new.self c.args.text.now c.new-lexer.ensures.0 c.new-lexer.ensures.1 _ c.in_err-file.ensures)

pub returns : goal.returns
returns g c =
    file_told g.K.Kind g.K.Coded c.new-lexer.result c.file.new.self c.args.text.now c.new-lexer.ensures.0 c.new-lexer.ensures.1 _ c.in_ok-file.ensures
