use Rattle.std.proofs.Common.{length, ap, arith}
use Rattle.std.proofs.lemmas.List.{length-map}
use Rattle.plan.specs.Laid.{record_of}
use Rattle.plan.specs.Shapes.{places_of}
use Rattle.tile.specs.Worlds.{contents}
use Rattle.tile.proofs.Filling.{fits_at, load_served}
use Rattle.tile.proofs.states.Loading.load.Goals as goal

pub write_place-requires-clause-place : goal.write_place-requires-clause-place
write_place-requires-clause-place g c =
    let at = c.in-Some.ensures.lookup.3 in
    let f = fits_at c.args.plan.now (g.S.Source.meaning c.args.source.now) c.self.inside.loaded c.places.result.now c.places.ensures.value at.0 c.if-not-fits_plan.ensures
    c.in-Some.place.now (at.1 _) in
    (f.known, f.size_there)

pub write_place-requires-clause-room : goal.write_place-requires-clause-room
write_place-requires-clause-room g c =
    let plan = c.args.plan.now in
    let at = c.in-Some.ensures.lookup.3 in
    let f = fits_at plan (g.S.Source.meaning c.args.source.now) c.self.inside.loaded c.places.result.now c.places.ensures.value at.0 c.if-not-fits_plan.ensures
    c.in-Some.place.now (at.1 _) in
    omega (arith, f.inside, plan.full, c.total.ensures.value, c.if-tables-total.false)

pub returns-clause-step : goal.returns-clause-step
returns-clause-step g c =
    let plan = c.args.plan.now in
    let m = g.S.Source.meaning c.args.source.now in
    let i = c.self.inside.loaded in
    let x = c.in-Some.place.now in
    let at = c.in-Some.ensures.lookup.3 in
    let f = fits_at plan m i c.places.result.now c.places.ensures.value at.0 c.if-not-fits_plan.ensures x (at.1 _) in
    let number = length-map (places_of plan) record_of in
    rw (← c.self.view_is) (load_served g.S.Sample.Kind plan m i (contents c.args.tables.now) x.start x.bins c.write_place.new.sums
    (omega (arith, c.total.ensures.value, c.if-tables-total.false)) (omega (arith, number, at.0, ap length c.places.ensures.value)) c.if-not-fits_plan.ensures f.starts f.size c.write_place.ensures)
