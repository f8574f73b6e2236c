use Rattle.std.proofs.Common.{Err}
use Rattle.std.proofs.lemmas.Result.{err_from_is_err_and}
use Rattle.tile.specs.Worlds.{contents}
use Rattle.runs.proofs.Endings.{loads_end, run_unsealed, unsealed_steps, run_served, served_steps, run_unfinished, unfinished_steps}
use Rattle.runs.proofs.rebuild.run.Goals as goal

pub unreachable-requires : goal.unreachable-requires
unreachable-requires g c =
    loads_end g.S.Sample.Kind (g.S.Source.meaning c.args.source.now) c.args.plan.now c.requires.lawful c.requires.own (contents c.args.tables.now) c.requires.long
    c.args.tile c.requires.opened (contents c.load_all.new.tables) (Err c.in_default.field-0) c.in_default.ensures.all

pub returns-in_err-tile-clause-run : goal.returns-in_err-tile-clause-run
returns-in_err-tile-clause-run g c =
    let K = g.S.Sample.Kind in
    let m = g.S.Source.meaning c.args.source.now in
    let before = contents c.args.tables.now in
    let t = contents c.seal_and_peel.new.tables in
    let p = err_from_is_err_and c.from_residual.result c.from_residual.ensures.1 in
    rw (p.1, p.2) (run_unsealed K m c.args.plan.now c.requires.lawful c.requires.own before c.requires.long c.args.tile c.requires.opened
    (contents c.load_all.new.tables) c.in-Ok.tile c.in-Ok.ensures.all t c.in_err-tile.field-0.0 c.in_err-tile.ensures.step)

pub returns-in_err-finish-clause-run : goal.returns-in_err-finish-clause-run
returns-in_err-finish-clause-run g c =
    let K = g.S.Sample.Kind in
    let m = g.S.Source.meaning c.args.source.now in
    let before = contents c.args.tables.now in
    let t = contents c.seal_and_peel.new.tables in
    let p = err_from_is_err_and c.from_residual-in_err-finish.result c.from_residual-in_err-finish.ensures.1 in
    rw (p.1, p.2) (run_unfinished K m c.args.plan.now c.requires.lawful c.requires.own before c.requires.long c.args.tile c.requires.opened
    (contents c.load_all.new.tables) c.in-Ok.tile c.in-Ok.ensures.all t c.in_ok-tile.tile c.in_ok-tile.ensures.step
    c.in_err-finish.field-0.0 c.in_err-finish.ensures.step)

pub returns-clause-run : goal.returns-clause-run
returns-clause-run g c =
    let t = contents c.seal_and_peel.new.tables in
    run_served g.S.Sample.Kind (g.S.Source.meaning c.args.source.now) c.args.plan.now c.requires.lawful c.requires.own (contents c.args.tables.now) c.requires.long
    c.args.tile c.requires.opened (contents c.load_all.new.tables) c.in-Ok.tile c.in-Ok.ensures.all t c.in_ok-tile.tile c.in_ok-tile.ensures.step c.in_ok-finish.field-0 c.in_ok-finish.ensures.step c.in_ok-finish.ensures.cells

pub returns-in_err-tile-clause-by_steps : goal.returns-in_err-tile-clause-by_steps
returns-in_err-tile-clause-by_steps g c =
    let K = g.S.Sample.Kind in
    let m = g.S.Source.meaning c.args.source.now in
    let before = contents c.args.tables.now in
    let t = contents c.seal_and_peel.new.tables in
    let p = err_from_is_err_and c.from_residual.result c.from_residual.ensures.1 in
    rw (p.1, p.2) (unsealed_steps K m c.args.plan.now c.requires.lawful c.requires.own before c.requires.long c.args.tile c.requires.opened
    (contents c.load_all.new.tables) c.in-Ok.tile c.in-Ok.ensures.all t c.in_err-tile.field-0.0 c.in_err-tile.ensures.step)

pub returns-in_err-finish-clause-by_steps : goal.returns-in_err-finish-clause-by_steps
returns-in_err-finish-clause-by_steps g c =
    let K = g.S.Sample.Kind in
    let m = g.S.Source.meaning c.args.source.now in
    let before = contents c.args.tables.now in
    let t = contents c.seal_and_peel.new.tables in
    let p = err_from_is_err_and c.from_residual-in_err-finish.result c.from_residual-in_err-finish.ensures.1 in
    rw (p.1, p.2) (unfinished_steps K m c.args.plan.now c.requires.lawful c.requires.own before c.requires.long c.args.tile c.requires.opened
    (contents c.load_all.new.tables) c.in-Ok.tile c.in-Ok.ensures.all t c.in_ok-tile.tile c.in_ok-tile.ensures.step
    c.in_err-finish.field-0.0 c.in_err-finish.ensures.step)

pub returns-clause-by_steps : goal.returns-clause-by_steps
returns-clause-by_steps g c =
    let t = contents c.seal_and_peel.new.tables in
    served_steps g.S.Sample.Kind (g.S.Source.meaning c.args.source.now) c.args.plan.now c.requires.lawful c.requires.own (contents c.args.tables.now) c.requires.long
    c.args.tile c.requires.opened (contents c.load_all.new.tables) c.in-Ok.tile c.in-Ok.ensures.all t c.in_ok-tile.tile c.in_ok-tile.ensures.step c.in_ok-finish.field-0 c.in_ok-finish.ensures.step c.in_ok-finish.ensures.cells
