use Rattle.std.proofs.Common.{sym, ap, ◌∙◌, subst}
use Rattle.mojette.specs.Meaning.{bins_of}
use Rattle.peeling.specs.Steps.{filled}
use Rattle.plan.specs.Shapes.{shape}
use Rattle.notes.specs.Missing.{by_marks}
use Rattle.notes.proofs.Found.{all_by_marks}
use Rattle.tile.specs.Seals.{singles_queued}
use Rattle.tile.specs.Worlds.{contents}
use Rattle.tile.proofs.Sealing.{begun}
use Rattle.tile.proofs.seal.begin.Goals as goal

pub returns-clause-world : goal.returns-clause-world
returns-clause-world g c =
    let s = shape c.args.plan.now in
    let pixels = c.pixels-pixels.ensures in
    begun g.K.Kind s (contents c.args.tables.now) c.queue_singles.new.state c.queue_singles.new.queue c.fill.new.cells c.fill-2.new.cells (g.T.Tally.counts_by s c.set_up.new.self c.set_up.new.counts)
    (c.queue_singles.ensures
    ∙ (λ j. singles_queued (bins_of s) (bins_of s) (g.T.Tally.counts_by s c.set_up.new.self c.set_up.new.counts) (record { head = 0; waiting = 0; out = 0; left = pixels j; settled = 0 }, c.args.tables.now.queue.now)))
    (c.fill.ensures ∙ (λ j. filled (pixels j) (λ _. c.zero_sample.ensures j) c.args.tables.now.picture.now))
    (c.fill-2.ensures ∙ (λ j. filled (pixels j) (λ _. 0) c.args.tables.now.marks.now))
    c.set_up.ensures.counts

pub returns-clause-knows : goal.returns-clause-knows
returns-clause-knows g c =
    let s = shape c.args.plan.now in
    let old = c.args.tables.now.marks.now in
    subst (λ xs. g.T.Tally.knows s (by_marks s xs) c.set_up.new.self) (sym (c.fill-2.ensures ∙ ap (λ n. filled n (λ _. 0) old) c.pixels-pixels.ensures))
    (g.T.Tally.alike s _ _ c.set_up.new.self (all_by_marks s old c.requires.marks) c.set_up.ensures.knows)
