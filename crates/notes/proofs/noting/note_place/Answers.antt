use Rattle.std.proofs.Common.{sym, ap, ◌∙◌, get_or, refl}
use Rattle.std.proofs.lemmas.List.{get_or-replicate}
use Rattle.notes.specs.Words.{note_same, note_zero}
use Rattle.notes.proofs.Tables.{place_noted, lost_noted}
use Rattle.notes.proofs.noting.note_place.Goals as goal

pub returns-then-is_whole : goal.returns-then-is_whole
returns-then-is_whole c =
    place_noted c.args.size c.args.place c.args.tile.now c.args.notes.now c.project-bins.new.sums c.direction_of.result _ c.direction_of.ensures c.requires.direction
    (sym c.is_whole.ensures ∙ c.if-is_whole.true) c.requires.tile c.requires.room c.project-bins.ensures.value (λ i. c.project-bins.new.sums)

pub returns-else-is_whole : goal.returns-else-is_whole
returns-else-is_whole c = λ b l.
    ap (λ ys. get_or ys b note_zero) (c.fill.ensures.after (λ y e. e)) ∙ get_or-replicate _ b _ note_zero l
    ∙ note_same _ note_zero refl
    ∙ lost_noted c.args.size c.args.place (sym c.is_whole.ensures ∙ c.if-is_whole.false) b
