use Rattle.std.proofs.Common.{◌≡◌, get_or, sym, ap, ◌∙◌, arith}
use Rattle.std.proofs.lemmas.List.{get_or_default}
use Rattle.notes.specs.Notes.{pixels_noted, cell_noted}
use Rattle.notes.specs.Words.{note_zero}
use Rattle.notes.proofs.Most.{few}
use Rattle.notes.proofs.Telling.{none_lone, lone_told, of_tile}
use Rattle.notes.proofs.tallies.NotesTally.lone.Goals as goal

pub listed : goal.listed
listed c = omega (arith, c.requires.at, few c.args.plan.now)

pub bounds-self-at : goal.bounds-self-at
bounds-self-at c = omega (arith, c.requires.at, few c.args.plan.now)

pub returns-then-pixels-ne1-clause-is : goal.returns-then-pixels-ne1-clause-is
returns-then-pixels-ne1-clause-is c =
    let own = c.args.self.now.notes in
    let note : get_or own c.args.at c.index-self-at.result ≡ get_or own c.args.at note_zero =
    get_or_default own c.args.at _ note_zero (omega (arith, c.requires.at, few c.args.plan.now)) in
    none_lone c.args.plan.now c.args.marks.now own c.requires.knows c.args.at c.requires.at c.requires.marks
    (λ e. c.if-pixels-ne1.true (c.pixels.ensures ∙ ap pixels_noted note ∙ e))

pub returns-clause-is : goal.returns-clause-is
returns-clause-is c =
    let own = c.args.self.now.notes in
    let note : get_or own c.args.at c.index-self-at.result ≡ get_or own c.args.at note_zero =
    get_or_default own c.args.at _ note_zero (omega (arith, c.requires.at, few c.args.plan.now)) in
    lone_told c.args.plan.now c.args.marks.now own c.requires.knows c.args.at c.requires.at c.requires.marks
    (ap pixels_noted (sym note) ∙ sym c.pixels.ensures ∙ c.if-pixels-ne1.false)
    c.columns-columns.result c.cell-cell.result c.columns-columns.ensures (c.cell-cell.ensures ∙ ap cell_noted note)

pub returns-clause-pixel : goal.returns-clause-pixel
returns-clause-pixel c =
    let own = c.args.self.now.notes in
    let note : get_or own c.args.at c.index-self-at.result ≡ get_or own c.args.at note_zero =
    get_or_default own c.args.at _ note_zero (omega (arith, c.requires.at, few c.args.plan.now)) in
    of_tile c.args.plan.now c.args.marks.now own c.requires.knows c.args.at c.requires.at c.requires.marks
    (ap pixels_noted (sym note) ∙ sym c.pixels.ensures ∙ c.if-pixels-ne1.false)
    c.columns-columns.result c.cell-cell.result c.columns-columns.ensures (c.cell-cell.ensures ∙ ap cell_noted note)
