use Rattle.std.proofs.Common.{◌==◌, sym, ap, ◌∙◌, arith}
use Rattle.std.proofs.lemmas.List.{get_or_default}
use Rattle.notes.specs.Notes.{pixels_noted}
use Rattle.notes.specs.Words.{note_zero}
use Rattle.notes.proofs.Most.{few}
use Rattle.notes.proofs.Telling.{told}
use Rattle.notes.proofs.tallies.NotesTally.is_one.Goals as goal

pub listed : goal.listed
listed c = omega (arith, c.requires.0, few c.args.plan.now)

pub bounds-self-at : goal.bounds-self-at
bounds-self-at c = omega (arith, c.requires.0, few c.args.plan.now)

pub returns : goal.returns
returns c =
    let own = c.args.self.now.notes in
    ap (λ n. n == 1)
    (c.pixels.ensures
    ∙ ap pixels_noted (get_or_default own c.args.at _ note_zero (omega (arith, c.requires.0, few c.args.plan.now)))
    ∙ sym (told c.args.plan.now own c.args.counts.now c.requires.1 c.args.at c.requires.0))
