use Rattle.std.proofs.Common.{◌≡◌, ◌+◌, ◌*◌, ◌≤◌, Some, None, slice_get, sym, ap, ◌∙◌, add-one, arith, rules}
use Rattle.std.proofs.lemmas.List.{take_rest}
use Rattle.std.proofs.lemmas.Result.{err_from_is_err_and}
use Rattle.mojette.specs.declared.fault.Fault.TheVariants.{NoPlace}
use Rattle.mojette.specs.Faults.{Outcome, served}
use Rattle.bracket.specs.Lines.{cause_of, held_lines}
use Rattle.bracket.proofs.OfLayout.{lawful_layout}
use Rattle.mojette.specs.Bounds.{most_bins}
use Rattle.bracket.proofs.OfQuestions.{no_bin_asked, lost_asked, past_asked, found_asked, few_bins, few_bytes}
use Rattle.bracket.proofs.asking.BracketFileSource.bin.Goals as goal
use Rattle.bracket.proofs.asking.BracketFileSource.bin.Given.{Over}

bound : (g : Over) (c : goal.After-digits g) → c.args.b * (c.digits.result + 1) ≤ most_bins * 13
bound g c =
    let f = c.args.self.now in
    let at : slice_get (held_lines f.lines) c.args.i ≡ Some c.in_ok-line.line = search rules in
    let law = lawful_layout g.K.Kind g.K.Coded f.text.now f.size (held_lines f.lines) f.read in
    let few = few_bins f.size (held_lines f.lines) c.args.i c.in_ok-line.line at law in
    few_bytes c.args.b c.bins.result c.digits.result g.K.Coded.width c.if-b-bins.false (omega (arith, c.bins.ensures.value)) c.digits.ensures g.K.Coded.coding.few_digits

pub overflow_mul-b : goal.overflow_mul-b
overflow_mul-b g c = omega (arith, bound g c)

pub overflow_add-b : goal.overflow_add-b
overflow_add-b g c = omega (arith, bound g c)

pub found-requires : goal.found-requires
found-requires g c = omega (arith, bound g c)

pub returns-in_err-line : goal.returns-in_err-line
returns-in_err-line g c =
    let f = c.args.self.now in
    let none : slice_get (held_lines f.lines) c.args.i ≡ None = search rules in
    let p = err_from_is_err_and c.from_residual.result c.from_residual.ensures.1 in
    let e : c.in_err-line.field-0.0 ≡ NoPlace = search rules in
    rw (p.1, p.2, e) (sym (no_bin_asked g.K.Kind g.K.Coded f.text.now f.size (held_lines f.lines) c.args.i none c.args.b))

pub returns-in-Lost : goal.returns-in-Lost
returns-in-Lost g c =
    let f = c.args.self.now in
    let at : slice_get (held_lines f.lines) c.args.i ≡ Some c.in_ok-line.line = search rules in
    let e : cause_of c.in_ok-line.line.held ≡ c.get.result = ap cause_of c.in-Lost.is ∙ sym c.get.ensures.value in
    sym (lost_asked g.K.Kind g.K.Coded f.text.now f.size (held_lines f.lines) c.args.i c.in_ok-line.line at c.args.b c.get.result e (omega (arith, c.get.ensures.nonzero)))

pub returns-then-b-bins : goal.returns-then-b-bins
returns-then-b-bins g c =
    let f = c.args.self.now in
    let at : slice_get (held_lines f.lines) c.args.i ≡ Some c.in_ok-line.line = search rules in
    sym (past_asked g.K.Kind g.K.Coded f.text.now f.size (held_lines f.lines) c.args.i c.in_ok-line.line at c.args.b c.in-Bins.begin c.in-Bins.is (omega (arith, c.bins.ensures.value, c.if-b-bins.true)))

pub returns : goal.returns
returns g c =
    let f = c.args.self.now in
    let at : slice_get (held_lines f.lines) c.args.i ≡ Some c.in_ok-line.line = search rules in
    let byte = ap (λ n. c.args.b * n + 1) (ap (λ n. n + 1) c.digits.ensures ∙ add-one g.K.Coded.width) in
    ap {B = Outcome g.row.K.Denot} served c.found.ensures
    ∙ sym (found_asked g.K.Kind g.K.Coded f.text.now f.size (held_lines f.lines) c.args.i c.in_ok-line.line at c.args.b c.in-Bins.begin
    c.min.result _ _ c.in-Bins.is (omega (arith, c.bins.ensures.value, c.if-b-bins.false)) c.min.ensures (take_rest f.text.now c.min.result) byte)
