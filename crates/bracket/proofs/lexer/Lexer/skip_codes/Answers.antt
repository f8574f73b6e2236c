use Rattle.std.proofs.Common.{arith}
use Rattle.std.proofs.lemmas.Result.{err_from_is_err_and}
use Rattle.bracket.proofs.OfSkips.{none_passed, stops_at_space, stops_at_code, passes_one, all_passed}
use Rattle.bracket.proofs.lexer.Lexer.skip_codes.Goals as goal

pub loop-i-init : goal.loop-i-init
loop-i-init g c = none_passed g.K.Kind g.K.Coded c.args.count c.args.self.now

pub returns-in_err-space : goal.returns-in_err-space
returns-in_err-space g c =
    let p = err_from_is_err_and c.from_residual.result c.from_residual.ensures.1 in
    rw (p.1, p.2) (stops_at_space g.K.Kind g.K.Coded c.args.count c.loop-i._i c.args.self.now c.loop-i.self (omega arith) c.loop-i.invariant c.space.new.self _ c.in_err-space.ensures)

pub returns-in_err-code : goal.returns-in_err-code
returns-in_err-code g c =
    let p = err_from_is_err_and c.from_residual-in_err-code.result c.from_residual-in_err-code.ensures.1 in
    rw (p.1, p.2) (stops_at_code g.K.Kind g.K.Coded c.args.count c.loop-i._i c.args.self.now c.loop-i.self (omega arith) c.loop-i.invariant c.space.new.self c.in_ok-space.ensures c.code.new.self _ c.in_err-code.ensures)

pub loop-i-preserved : goal.loop-i-preserved
loop-i-preserved g c = passes_one g.K.Kind g.K.Coded c.args.count c.loop-i._i c.args.self.now c.loop-i.self (omega arith) c.loop-i.invariant c.space.new.self c.in_ok-space.ensures c.code.new.self c.in_ok-code.field-0 c.in_ok-code.ensures

pub returns : goal.returns
returns g c = all_passed g.K.Kind g.K.Coded c.args.count c.loop-i._i c.args.self.now c.loop-i.self (omega arith) c.loop-i.invariant
