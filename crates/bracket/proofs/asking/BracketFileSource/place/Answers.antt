use Rattle.std.proofs.Common.{◌≡◌, Some, None, slice_get, ap, sym, ◌∙◌, rules}
use Rattle.std.proofs.lemmas.Result.{err_from_is_err_and}
use Rattle.mojette.specs.declared.direction.Record.{Record}
use Rattle.mojette.specs.declared.fault.Fault.TheVariants.{NoPlace}
use Rattle.mojette.specs.Faults.{Outcome, served}
use Rattle.bracket.specs.Lines.{held_lines}
use Rattle.bracket.proofs.OfQuestions.{no_place_asked, entry_asked}
use Rattle.bracket.proofs.asking.BracketFileSource.place.Goals as goal

pub returns-in_err-line : goal.returns-in_err-line
returns-in_err-line g c =
    let f = c.args.self.now in
    let none : slice_get (held_lines f.lines) c.args.i ≡ None = search rules in
    let p = err_from_is_err_and c.from_residual.result c.from_residual.ensures.1 in
    let e : c.in_err-line.field-0.0 ≡ NoPlace = search rules in
    rw (p.1, p.2, e) (sym (no_place_asked g.K.Kind g.K.Coded f.text.now f.size (held_lines f.lines) c.args.i none))

pub returns : goal.returns
returns g c =
    let f = c.args.self.now in
    let at : slice_get (held_lines f.lines) c.args.i ≡ Some c.in_ok-line.line = search rules in
    ap {B = Outcome Record} served c.record.ensures ∙ sym (entry_asked g.K.Kind g.K.Coded f.text.now f.size (held_lines f.lines) c.args.i c.in_ok-line.line at)
