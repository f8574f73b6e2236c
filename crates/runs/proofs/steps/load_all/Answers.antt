use Rattle.std.proofs.Common.{◌≡◌, ◌+◌, ◌∷◌, length, refl, ap, ◌∙◌, arith}
use Rattle.law.specs.Life.{event}
use Rattle.law.specs.Life as calls
use Rattle.law.specs.Steps.{done}
use Rattle.law.specs.Turns.{loaded}
use Rattle.tile.specs.Worlds.{contents}
use Rattle.tile.proofs.Keeping.{same_tables, lent_on}
use Rattle.runs.proofs.Turns.{loaded_one, load_goes, load_serves, loads_more, same_number}
use Rattle.runs.proofs.steps.load_all.Goals as goal

pub returns-in_err-tile-clause-lent : goal.returns-in_err-tile-clause-lent
returns-in_err-tile-clause-lent g c = lent_on c.loop.invariant.0 c.in_err-tile.ensures.lent

pub returns-in_err-tile-clause-all : goal.returns-in_err-tile-clause-all
returns-in_err-tile-clause-all g c = λ own h life zero.
    let K = g.S.Sample.Kind in
    let m = g.S.Source.meaning c.args.source.now in
    let plan = c.args.plan.now in
    let w = c.loop.invariant.1 own h life zero in
    absurd (load_serves K m plan own c.loop.tile (contents c.loop.tables) (contents c.load.new.tables) w.0 w.1
    (omega (arith, w.2, c.loop-test.true, c.count-end.ensures, same_number K m plan own)) c.in_err-tile.field-0.0 c.in_err-tile.ensures.step)

pub loop-init : goal.loop-init
loop-init g c = (same_tables c.args.tables.now, λ own h life zero. (h, life, zero, refl))

pub loop-preserved : goal.loop-preserved
loop-preserved g c = (
  lent_on c.loop.invariant.0 c.in_ok-tile.ensures.lent,
  λ own h life zero.
      let K = g.S.Sample.Kind in
      let m = g.S.Source.meaning c.args.source.now in
      let w = c.loop.invariant.1 own h life zero in (
        event calls.loads done ∷ w.0,
        loaded_one K m c.args.plan.now own c.loop.tile (contents c.loop.tables) (contents c.load.new.tables) w.0 w.1 c.in_ok-tile.tile c.in_ok-tile.ensures.step,
        loads_more K m w.0 ∙ ap (λ n. n + 1) w.2,
        load_goes K m c.args.plan.now own c.loop.tile (contents c.loop.tables) (contents c.load.new.tables) w.0 w.1
            c.in_ok-tile.tile c.in_ok-tile.ensures.step c.loop.counter w.2 (contents c.args.tables.now) w.3,
      ),
)

pub returns-clause-all : goal.returns-clause-all
returns-clause-all g c = λ own h life zero.
    let K = g.S.Sample.Kind in
    let m = g.S.Source.meaning c.args.source.now in
    let w = c.loop.invariant.1 own h life zero in
    let all : c.loop.counter ≡ length m.places = omega (arith, c.loop-test.false, c.loop.auto.counter-end, c.count-end.ensures, same_number K m c.args.plan.now own) in
    (w.0, w.1, w.2 ∙ all, w.3 ∙ ap (λ n. loaded K m n (contents c.args.tables.now)) all)
