use Rattle.std.proofs.Common.{sym, arith}
use Rattle.std.proofs.lemmas.Bool.{true≢false}
use Rattle.std.proofs.lemmas.Bool.Decides.{nat_tests}
use Rattle.mojette.specs.Meaning.{bins_of}
use Rattle.peeling.specs.Steps.{first_left_over, finish_answers}
use Rattle.plan.specs.Shapes.{shape}
use Rattle.law.specs.Steps.{short_sums, finish}
use Rattle.tile.proofs.Leftovers.{stands_at}
use Rattle.tile.proofs.states.Peeling.finish.Goals as goal

pub returns-in-Some-clause-step : goal.returns-in-Some-clause-step
unfolding finish short_sums finish_answers
returns-in-Some-clause-step g c =
    let plan = c.args.plan.now in
    let at = stands_at plan (first_left_over g.K.Kind (bins_of (shape plan)) c.args.tables.now.sums.now) c.in-Some.i c.in-Some.b c.in-Some.ensures in
    grind (arith, nat_tests, at.place, at.bin, at.inside)

pub returns-in-Some-clause-served : goal.returns-in-Some-clause-served
returns-in-Some-clause-served g c =
    let plan = c.args.plan.now in
    let at = stands_at plan (first_left_over g.K.Kind (bins_of (shape plan)) c.args.tables.now.sums.now) c.in-Some.i c.in-Some.b c.in-Some.ensures in
    (λ no. absurd (true≢false (sym no)), λ can. absurd (omega (arith, at.inside, can.3)))
