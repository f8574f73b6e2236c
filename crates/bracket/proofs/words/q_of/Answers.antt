use Rattle.std.proofs.Common.{◌≡◌, ℤ, Some, sym, ◌∙◌, w32, SFits, to_z, of_z, rules}
use Rattle.std.proofs.lemmas.Bool.{cond-true, cond-false}
use Rattle.std.proofs.lemmas.Int.{to_z-of_z}
use Rattle.format.specs.Format.{direction_of}
use Rattle.format.specs.Numbers.{numeral}
use Rattle.bracket.specs.Capped.{capped}
use Rattle.bracket.proofs.OfDirections.{q_worth}
use Rattle.bracket.proofs.words.q_of.Goals as goal

held : (p q : ℤ) → SFits w32 p → SFits w32 q → direction_of p q ≡ direction_of (to_z w32 (of_z w32 p)) (to_z w32 (of_z w32 q))
held p q f g = λ i. direction_of (sym (to_z-of_z w32 p f) i) (sym (to_z-of_z w32 q g) i)

pub returns-then-not-is_lawful : goal.returns-then-not-is_lawful
returns-then-not-is_lawful c =
    let f : SFits w32 c.in_ok-q.q = search rules in
    let e : Some c.in_ok-q.q ≡ capped (numeral c.args.word.now) = search rules in
    sym (q_worth c.args.last c.args.p c.in_ok-q.q _ _ e (held c.args.p c.in_ok-q.q c.ranges.p f) ∙ cond-false _ _ _ (sym c.if-not-is_lawful.ensures))

pub returns-then-not-follows : goal.returns-then-not-follows
returns-then-not-follows c =
    let f : SFits w32 c.in_ok-q.q = search rules in
    let e : Some c.in_ok-q.q ≡ capped (numeral c.args.word.now) = search rules in
    sym (q_worth c.args.last c.args.p c.in_ok-q.q _ _ e (held c.args.p c.in_ok-q.q c.ranges.p f) ∙ cond-true _ _ _ (sym c.if-not-is_lawful.ensures) ∙ cond-false _ _ _ (sym c.if-not-follows.ensures))

pub returns : goal.returns
returns c =
    let f : SFits w32 c.in_ok-q.q = search rules in
    let e : Some c.in_ok-q.q ≡ capped (numeral c.args.word.now) = search rules in
    sym (q_worth c.args.last c.args.p c.in_ok-q.q _ _ e (held c.args.p c.in_ok-q.q c.ranges.p f) ∙ cond-true _ _ _ (sym c.if-not-is_lawful.ensures) ∙ cond-true _ _ _ (sym c.if-not-follows.ensures))
