use Rattle.std.proofs.Common.{get_or, set, ap, ◌∙◌, arith}
use Rattle.std.proofs.lemmas.List.{length-set}
use Rattle.std.proofs.lemmas.List.Edits.{fill_by_more}
use Rattle.notes.specs.Notes.{note_of_cell}
use Rattle.notes.specs.Words.{note_zero}
use Rattle.notes.proofs.noting.numbered.Goals as goal

pub loop-c-preserved : goal.loop-c-preserved
loop-c-preserved c =
    let long = c.loop-c.invariant.long in record {
      long = length-set c.loop-c.tile c.loop-c.c c.of_cell.result ∙ long;
      each = λ k h.
          ap (λ v. get_or (set c.loop-c.tile c.loop-c.c v) k note_zero) c.of_cell.ensures
          ∙ fill_by_more note_of_cell c.loop-c.tile c.loop-c.c note_zero (omega (arith, c.loop-c-test.true)) c.loop-c.invariant.each k h;
    }

pub returns : goal.returns
returns c = record { long = omega (arith, c.loop-c.invariant.long); each = λ k h. c.loop-c.invariant.each k (omega (arith, c.loop-c-test.false)) }
