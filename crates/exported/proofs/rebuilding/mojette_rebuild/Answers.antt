use Rattle.std.proofs.Common.{◌≡◌, ◌*◌, ap, sym, subst, ◌∙◌, rules}
use Rattle.mojette.specs.Bins.{all_bins}
use Rattle.source.specs.Racks.{racking}
use Rattle.tile.specs.Outcomes.{tables}
use Rattle.exported.proofs.Lent.{as_left}
use Rattle.exported.specs.Rebuilding.{pixels, rebuilding, SameBeyond}
use Rattle.exported.specs.Told.{told}
use Rattle.exported.proofs.Beyond.{rebuilding_leaves}
use Rattle.exported.proofs.Refusals.{unwritten}
use Rattle.exported.proofs.rebuilding.mojette_rebuild.Goals as goal

pub returns-clause-unwritten : goal.returns-clause-unwritten
returns-clause-unwritten c = λ some other last.
    let made = racking c.args.columns c.args.rows c.args.records.now c.args.run.now in
    let before = tables c.args.picture.now c.args.marks.now c.args.sums.now c.args.counts.now c.args.queue.now in
    let left = rebuilding c.args.columns c.args.rows c.args.records.now c.args.run.now before in
    let told_so : c.tell.new.refusal ≡ (told (pixels left.0)).1 = ap (λ a. a.1) (c.tell.ensures ∙ ap told c.rebuild_rack-answer.ensures.answer) in
    as_left c.rebuild_rack-answer.new.tables (search rules) (search rules) (search rules) (search rules) (search rules)
    ∙ c.rebuild_rack-answer.ensures.left ∙ unwritten made before left.0 left.1 c.rebuild_rack-answer.ensures.run
    (λ e. some (ap (λ r. r.number) told_so ∙ e)) (λ e. other (ap (λ r. r.number) told_so ∙ e)) (λ e. last (ap (λ r. r.number) told_so ∙ e))

pub returns-clause-beyond : goal.returns-clause-beyond
returns-clause-beyond c =
    let before = tables c.args.picture.now c.args.marks.now c.args.sums.now c.args.counts.now c.args.queue.now in
    subst (SameBeyond (c.args.columns * c.args.rows) (all_bins c.args.columns c.args.rows c.args.records.now) before) (sym (as_left c.rebuild_rack-answer.new.tables (search rules) (search rules) (search rules) (search rules) (search rules) ∙ c.rebuild_rack-answer.ensures.left))
    (rebuilding_leaves c.args.columns c.args.rows c.args.records.now c.args.run.now before)
