use Rattle.std.proofs.Common.{sym, ◌∙◌, arith}
use Rattle.walk.proofs.Counting.{none_in_lost, down, across}
use Rattle.walk.proofs.Places.{filled_part, written_part}
use Rattle.walk.proofs.counts.count_place.Goals as goal

pub returns-then-not-is_whole : goal.returns-then-not-is_whole
returns-then-not-is_whole c =
    filled_part c.args.place.start c.args.place.bins _ c.args.counts.now c.fill.new.self c.requires.inside 0 (c.fill.ensures.after (λ y e. e))
    (λ b l. none_in_lost c.args.size.columns c.args.size.rows c.args.place (sym c.is_whole.ensures ∙ c.if-not-is_whole.true) b)

pub returns-then-place-eq0 : goal.returns-then-place-eq0
returns-then-place-eq0 c =
    filled_part c.args.place.start c.args.place.bins _ c.args.counts.now c.fill-then-place-eq0.new.self c.requires.inside c.args.size.rows (c.fill-then-place-eq0.ensures.after (λ y e. e))
    (λ b l. down c.args.size.columns c.args.size.rows c.args.place (sym c.is_whole.ensures ∙ c.if-not-is_whole.false) c.requires.line b (omega (arith, c.requires.bins_are)) c.if-place-eq0.true)

pub returns-then-place-eq0-2 : goal.returns-then-place-eq0-2
returns-then-place-eq0-2 c =
    filled_part c.args.place.start c.args.place.bins _ c.args.counts.now c.fill-then-place-eq0-2.new.self c.requires.inside c.args.size.columns (c.fill-then-place-eq0-2.ensures.after (λ y e. e))
    (λ b l. across c.args.size.columns c.args.size.rows c.args.place (sym c.is_whole.ensures ∙ c.if-not-is_whole.false) c.requires.line b (omega (arith, c.requires.bins_are)) c.if-place-eq0-2.true)

pub returns-else-place-eq0-2 : goal.returns-else-place-eq0-2
returns-else-place-eq0-2 c =
    written_part c.args.place.start c.args.place.bins _ c.args.counts.now c.count_slanted.new.bins c.requires.inside c.count_slanted.auto.bins c.count_slanted.ensures
