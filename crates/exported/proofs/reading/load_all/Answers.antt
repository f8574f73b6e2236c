use Rattle.std.proofs.Common.{◌≡◌, ◌+◌, ◌<◌, ◌≤◌, suc, length, ap, ◌∙◌, arith}
use Rattle.samples.specs.contracts.impls.SumWordKind.TheImpl.{ghosts as sum_operations}
use Rattle.mojette.specs.Meaning.{shape_of, bins_of}
use Rattle.law.specs.Steps.{with_place}
use Rattle.source.specs.Questions.{place_at}
use Rattle.runs.proofs.Turns.{same_number}
use Rattle.bracket.specs.Files.{file_meaning}
use Rattle.tile.specs.Worlds.{contents}
use Rattle.tile.proofs.Keeping.{lent_on}
use Rattle.exported.specs.Reading.{laid}
use Rattle.exported.proofs.Loads.{is_laid, never_refused}
use Rattle.exported.proofs.reading.load_all.Goals as goal

pub unreachable-requires : goal.unreachable-requires
unreachable-requires c =
    let m = file_meaning c.args.file.now in
    let room : bins_of (shape_of m) ≤ length c.loop.tables.sums.now = omega (arith, c.requires.room, ap bins_of c.requires.own, c.loop.invariant.2.sums_size) in
    let next : c.loop.tile < length m.places =
    omega (arith, c.loop.invariant.0, c.loop-test.true, c.count-end.ensures, same_number sum_operations m c.args.plan.now c.requires.own) in
    never_refused sum_operations m c.args.plan.now c.requires.own c.loop.tile (contents c.loop.tables) (contents c.load.new.tables) room next c.in_default.field-0 c.in_default.ensures.step

pub loop-preserved : goal.loop-preserved
loop-preserved c =
    let m = file_meaning c.args.file.now in
    let room : bins_of (shape_of m) ≤ length c.loop.tables.sums.now = omega (arith, c.requires.room, ap bins_of c.requires.own, c.loop.invariant.2.sums_size) in
    let next : c.loop.tile < length m.places =
    omega (arith, c.loop.invariant.0, c.loop-test.true, c.count-end.ensures, same_number sum_operations m c.args.plan.now c.requires.own) in
    let laid_so = is_laid sum_operations m c.args.plan.now c.requires.own c.loop.tile (contents c.loop.tables) (contents c.load.new.tables) room next c.in-Ok.next c.in-Ok.ensures.step in
    let one : suc c.loop.counter ≡ c.loop.counter + 1 = omega arith in (
      c.in-Ok.ensures.next ∙ ap (λ n. n + 1) c.loop.invariant.0,
      laid_so ∙ ap (λ n. with_place sum_operations (shape_of m) (place_at m n) n c.loop.tables.sums.now) c.loop.invariant.0
          ∙ ap (with_place sum_operations (shape_of m) (place_at m c.loop.counter) c.loop.counter) c.loop.invariant.1
          ∙ ap (λ n. laid m n c.args.sums.now) one,
      lent_on c.loop.invariant.2 c.in-Ok.ensures.lent,
    )
