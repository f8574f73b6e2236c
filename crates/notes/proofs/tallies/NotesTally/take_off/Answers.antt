use Rattle.std.proofs.Common.{◌≡◌, ◌==◌, ◌≤◌, length, get_or, set, sym, ap, ◌∙◌, subst, arith}
use Rattle.std.proofs.lemmas.List.{get_or_default}
use Rattle.mojette.specs.Meaning.{bins_of}
use Rattle.plan.specs.Shapes.{shape}
use Rattle.notes.specs.Missing.{found_in}
use Rattle.notes.specs.Notes.{pixels_noted, note_of_cell, counts_told, Noted}
use Rattle.notes.specs.Words.{note_plus, note_inverse, note_zero}
use Rattle.notes.proofs.Most.{few}
use Rattle.notes.proofs.Telling.{one_left, counts_left, noted_left}
use Rattle.notes.proofs.tallies.NotesTally.take_off.Goals as goal

pub listed : goal.listed
listed c = omega (arith, c.requires.at, few c.args.plan.now)

pub bounds-self-at : goal.bounds-self-at
bounds-self-at c = omega (arith, c.requires.at, few c.args.plan.now)

pub listed-2 : goal.listed-2
listed-2 c = omega (arith, c.requires.at, few c.args.plan.now)

pub bounds-self-at-2 : goal.bounds-self-at-2
bounds-self-at-2 c = omega (arith, c.requires.at, few c.args.plan.now)

pub returns-clause-counts : goal.returns-clause-counts
returns-clause-counts c =
    let own = c.args.self.now.notes in
    let room : bins_of (shape c.args.plan.now) ≤ length own = omega (arith, few c.args.plan.now) in
    let left : c.minus-left.result ≡ note_plus (get_or own c.args.at note_zero) (note_inverse (note_of_cell c.args.cell)) =
    c.minus-left.ensures ∙ (λ i. note_plus (get_or_default own c.args.at c.index-self-at.result note_zero (omega (arith, room, c.requires.at)) i) (note_inverse (c.of_cell.ensures i))) in
    ap (λ x. counts_told (shape c.args.plan.now) (set own c.args.at x) c.args.counts.now) left
    ∙ counts_left c.args.plan.now c.requires.knows.0 own c.requires.knows.1 c.args.counts.now c.requires.room c.args.at c.requires.at room c.args.cell c.requires.cell c.requires.knows.2

pub returns-clause-one : goal.returns-clause-one
returns-clause-one c =
    let own = c.args.self.now.notes in
    let room : bins_of (shape c.args.plan.now) ≤ length own = omega (arith, few c.args.plan.now) in
    let left : c.minus-left.result ≡ note_plus (get_or own c.args.at note_zero) (note_inverse (note_of_cell c.args.cell)) =
    c.minus-left.ensures ∙ (λ i. note_plus (get_or_default own c.args.at c.index-self-at.result note_zero (omega (arith, room, c.requires.at)) i) (note_inverse (c.of_cell.ensures i))) in
    ap (λ n. n == 1) (c.pixels.ensures ∙ ap pixels_noted left)
    ∙ one_left c.args.plan.now c.requires.knows.0 own c.requires.knows.1 c.args.counts.now c.requires.room c.args.at c.requires.at room c.args.cell c.requires.cell c.requires.knows.2

pub returns-clause-knows : goal.returns-clause-knows
returns-clause-knows c = λ m known on.
    let own = c.args.self.now.notes in
    let room : bins_of (shape c.args.plan.now) ≤ length own = omega (arith, few c.args.plan.now) in
    let left : c.minus-left.result ≡ note_plus (get_or own c.args.at note_zero) (note_inverse (note_of_cell c.args.cell)) =
    c.minus-left.ensures ∙ (λ i. note_plus (get_or_default own c.args.at c.index-self-at.result note_zero (omega (arith, room, c.requires.at)) i) (note_inverse (c.of_cell.ensures i))) in
    subst (λ x. Noted (shape c.args.plan.now) (found_in c.args.at c.args.cell m) (set own c.args.at x)) (sym left)
    (noted_left c.args.plan.now m own known c.args.counts.now c.requires.room c.args.at c.requires.at room c.args.cell c.requires.cell on)
