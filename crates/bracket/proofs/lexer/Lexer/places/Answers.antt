use Rattle.std.proofs.Common.{◌<◌, length, ltb, refl, ap, arith}
use Rattle.std.proofs.lemmas.Result.{err_from_is_err_and}
use Rattle.std.proofs.lemmas.Bool.{ltb-true}
use Rattle.mojette.specs.Bounds.{most_places}
use Rattle.bracket.specs.Lines.{is_dir, held_lines}
use Rattle.bracket.proofs.OfPlaces.{not_dir, stops_at_start, stops_at_end, ends, stops_at_line, reads_one}
use Rattle.bracket.proofs.lexer.Lexer.places.Goals as goal

pub returns-in_err-start : goal.returns-in_err-start
returns-in_err-start g c =
    let p = err_from_is_err_and c.from_residual.result c.from_residual.ensures.1 in
    rw (p.1, p.2) (stops_at_start g.K.Kind g.K.Coded c.args.size c.args.self.now c.loop-self.self (held_lines c.loop-self.lines) c.loop-self.last _ c.loop-self.invariant (ap (λ n. ltb n most_places) c.len.ensures) _ c.start.new.self _ c.in_err-start.ensures.reads)

pub returns-in_err-line : goal.returns-in_err-line
returns-in_err-line g c =
    let p = err_from_is_err_and c.from_residual-in_err-line.result c.from_residual-in_err-line.ensures.1 in
    let room = ltb-true c.len.result most_places (c.in_ok-start.ensures.room (ap is_dir c.in-Dir.is)) in
    let inside : length (held_lines c.loop-self.lines) < most_places = omega (arith, c.len.ensures) in
    rw (p.1, p.2) (stops_at_line g.K.Kind g.K.Coded c.args.size c.args.self.now c.loop-self.self (held_lines c.loop-self.lines) c.loop-self.last _ c.loop-self.invariant (ap (λ n. ltb n most_places) c.len.ensures) c.start.new.self _ c.in_ok-start.ensures.reads (ap is_dir c.in-Dir.is) inside _ c.place.new.self _ c.in_err-line.ensures)

pub loop-self-preserved : goal.loop-self-preserved
loop-self-preserved g c =
    let room = ltb-true c.len.result most_places (c.in_ok-start.ensures.room (ap is_dir c.in-Dir.is)) in
    let inside : length (held_lines c.loop-self.lines) < most_places = omega (arith, c.len.ensures) in
    rw c.push.ensures (reads_one g.K.Kind g.K.Coded c.args.size c.args.self.now c.loop-self.self (held_lines c.loop-self.lines) c.loop-self.last _ c.loop-self.invariant (ap (λ n. ltb n most_places) c.len.ensures) c.start.new.self _ c.in_ok-start.ensures.reads (ap is_dir c.in-Dir.is) inside c.place.new.self _ c.in_ok-line.ensures)

pub returns-in_err-finish : goal.returns-in_err-finish
returns-in_err-finish g c =
    let p = err_from_is_err_and c.from_residual-in_err-finish.result c.from_residual-in_err-finish.ensures.1 in
    rw (p.1, p.2) (stops_at_end g.K.Kind g.K.Coded c.args.size c.args.self.now c.loop-self.self (held_lines c.loop-self.lines) c.loop-self.last _ c.loop-self.invariant (ap (λ n. ltb n most_places) c.len.ensures) c.start.new.self _ c.in_ok-start.ensures.reads (not_dir _ c.in_default.not-Dir) _ c.finish.new.self _ c.in_err-finish.ensures)

pub returns : goal.returns
returns g c =
    ends g.K.Kind g.K.Coded c.args.size c.args.self.now c.loop-self.self (held_lines c.loop-self.lines) c.loop-self.last _ c.loop-self.invariant (ap (λ n. ltb n most_places) c.len.ensures) c.start.new.self _ c.in_ok-start.ensures.reads (not_dir _ c.in_default.not-Dir) c.finish.new.self c.loop-self.lines refl c.in_ok-finish.ensures
