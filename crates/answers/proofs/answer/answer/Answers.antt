use Rattle.std.proofs.Common.{Some, sym, ap, ◌∙◌}
use Rattle.answers.proofs.Texts.{long_answers, unread_answers, sums_answers, xors_answers, pairs_answers}
use Rattle.answers.proofs.answer.answer.Goals as goal

pub returns-then-text-gt-MOST_BYTES-clause-law : goal.returns-then-text-gt-MOST_BYTES-clause-law
returns-then-text-gt-MOST_BYTES-clause-law c = long_answers c.args.text.now c.if-text-gt-MOST_BYTES.true

pub returns-in-Some-Sum-clause-law : goal.returns-in-Some-Sum-clause-law
returns-in-Some-Sum-clause-law c =
    sums_answers c.args.text.now c.if-text-gt-MOST_BYTES.false (sym c.kind_of.ensures.named ∙ c.in-Some-Sum.is ∙ ap Some c.in-Some-Sum.field-0-is) c.answer_sums.ensures.law

pub returns-in-Some-Xor-clause-law : goal.returns-in-Some-Xor-clause-law
returns-in-Some-Xor-clause-law c =
    xors_answers c.args.text.now c.if-text-gt-MOST_BYTES.false (sym c.kind_of.ensures.named ∙ c.in-Some-Xor.is ∙ ap Some c.in-Some-Xor.field-0-is) c.answer_xors.ensures.law

pub returns-in-Some-Pair-clause-law : goal.returns-in-Some-Pair-clause-law
returns-in-Some-Pair-clause-law c =
    pairs_answers c.args.text.now c.if-text-gt-MOST_BYTES.false (sym c.kind_of.ensures.named ∙ c.in-Some-Pair.is ∙ ap Some c.in-Some-Pair.field-0-is) c.answer_pairs.ensures.law

pub returns-in-None-clause-law : goal.returns-in-None-clause-law
returns-in-None-clause-law c =
    unread_answers c.args.text.now c.if-text-gt-MOST_BYTES.false (sym c.kind_of.ensures.named ∙ c.in-None.is) (c.kind_of.ensures.none c.in-None.is)
