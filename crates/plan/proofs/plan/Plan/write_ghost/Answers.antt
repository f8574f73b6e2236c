use Rattle.std.proofs.Common.{sym, ◌∙◌, arith}
use Rattle.plan.specs.Shapes.{shape, places_of}
use Rattle.plan.proofs.Enough.{spark_inside, ghost_stands, place_narrow}
use Rattle.plan.proofs.Lawful.{place_lawful}
use Rattle.plan.proofs.Making.{makes_whole, makes_lost, makes_end}
use Rattle.plan.proofs.plan.Plan.write_ghost.Goals as goal
use Rattle.plan.proofs.plan.Plan.write_ghost.Goals.{then-is_whole, else-is_whole}

pub write_spark-requires : goal.write_spark-requires
write_spark-requires g c =
    let plan = c.args.self.now in
    record { room = c.requires.room; inside = omega (arith, spark_inside (shape plan) c.requires.fails, c.spark_column.ensures) }

pub take_off-requires : goal.take_off-requires
take_off-requires g c =
    let plan = c.args.self.now in
    let xs = c.places-place-items.result.now in
    let i = c.loop-place.place-index in
    let e = c.places-place-items.ensures.value in
    let l = c.loop-place-test.true in
    record {
      room = omega (arith, c.requires.room);
      direction = place_lawful plan xs i e l;
      narrow = place_narrow plan xs i e l (sym c.is_whole.ensures ∙ c.if-is_whole.true) c.requires.fails;
    }

pub loop-place-preserved : goal.loop-place-preserved
loop-place-preserved g c =
    let plan = c.args.self.now in
    let xs = c.places-place-items.result.now in
    let i = c.loop-place.place-index in
    let old = c.loop-place.picture in
    let new = c.if-is_whole.picture in
    elim c.if-is_whole.branch [
      | then-is_whole w ↦ makes_whole g.K.Kind plan.size.columns plan.size.rows xs (places_of plan) c.write_spark.new.picture i c.loop-place-test.true old new c.loop-place.invariant
          w.take_off.new.picture (sym c.is_whole.ensures ∙ w.if-is_whole.true) w.picture-is w.take_off.ensures.shows w.take_off.ensures.others
      | else-is_whole w ↦ makes_lost g.K.Kind plan.size.columns plan.size.rows xs (places_of plan) c.write_spark.new.picture i c.loop-place-test.true old new c.loop-place.invariant
          (sym c.is_whole.ensures ∙ w.if-is_whole.false) w.picture-is
    ]

pub returns : goal.returns
returns g c =
    let plan = c.args.self.now in
    let old = c.args.picture.now in
    let new = c.loop-place.picture in
    let written =
    makes_end g.K.Kind plan.size.columns plan.size.rows c.places-place-items.result.now (places_of plan) c.write_spark.new.picture c.loop-place.place-index old new
    c.loop-place-test.false (omega (arith, c.requires.room)) c.write_spark.ensures.others c.loop-place.invariant in
    record { written = written; unseen = ghost_stands (shape plan) g.K.Kind plan.lawful c.requires.fails old new written }
