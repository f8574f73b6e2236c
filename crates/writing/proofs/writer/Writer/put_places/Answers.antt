use Rattle.std.proofs.Common.{ap, arith}
use Rattle.std.proofs.lemmas.List.{take_all}
use Rattle.writing.specs.Files.{place_lines}
use Rattle.writing.proofs.OfFiles.{stands, places_count}
use Rattle.writing.proofs.OfPlaces.{lines_more, lines_within}
use Rattle.writing.proofs.OfSplices.{writes_none, writes_more, writes_same}
use Rattle.writing.proofs.writer.Writer.put_places.Goals as goal

pub loop-i-init : goal.loop-i-init
loop-i-init g c = writes_none c.args.self.now (omega (arith, c.requires.room))

pub put_place-requires-clause-place : goal.put_place-requires-clause-place
put_place-requires-clause-place g c =
    stands c.args.plan.now c.places-place-items.result.now c.places-place-items.ensures.value c.loop-i.i c.loop-i-test.true (g.S.Source.meaning c.args.source.now) c.requires.same

pub put_place-requires-clause-room : goal.put_place-requires-clause-room
put_place-requires-clause-room g c =
    let m = g.S.Source.meaning c.args.source.now in
    let n = places_count c.args.plan.now c.places-place-items.result.now c.places-place-items.ensures.value m c.requires.same in
    let r = lines_within g.K.Kind g.K.Coded m.P m.Q m.places c.loop-i.i (omega (arith, n, c.loop-i-test.true)) in
    omega (arith, c.requires.room)

pub loop-i-preserved : goal.loop-i-preserved
loop-i-preserved g c =
    let m = g.S.Source.meaning c.args.source.now in
    let n = places_count c.args.plan.now c.places-place-items.result.now c.places-place-items.ensures.value m c.requires.same in
    writes_same (lines_more g.K.Kind g.K.Coded m.P m.Q m.places c.loop-i.i (omega (arith, n, c.loop-i-test.true))) (writes_more c.loop-i.invariant c.put_place.ensures)

pub returns : goal.returns
returns g c =
    let m = g.S.Source.meaning c.args.source.now in
    let n = places_count c.args.plan.now c.places-place-items.result.now c.places-place-items.ensures.value m c.requires.same in
    writes_same (ap (place_lines g.K.Kind g.K.Coded m.P m.Q) (take_all c.loop-i.i m.places (omega (arith, n, c.loop-i-test.false)))) c.loop-i.invariant
