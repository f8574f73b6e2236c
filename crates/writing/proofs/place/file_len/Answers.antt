use Rattle.std.proofs.Common.{◌≤◌, length, take, ap, subst, arith, length-append, below_more}
use Rattle.std.proofs.lemmas.List.{take_all}
use Rattle.plan.specs.Laid.{place_at as laid_at}
use Rattle.plan.specs.Shapes.{places_of}
use Rattle.source.specs.Questions.{place_at}
use Rattle.format.specs.Format.{most_cause}
use Rattle.writing.specs.Files.{place_line, place_lines}
use Rattle.writing.proofs.OfFiles.{bins_there, bytes_there, stands, places_count, length-file}
use Rattle.writing.proofs.OfPlaces.{lines_more}
use Rattle.writing.proofs.place.file_len.Goals as goal

pub place_len-len-requires : goal.place_len-len-requires
place_len-len-requires g c = bins_there c.args.plan.now c.places-place-items.result.now c.places-place-items.ensures.value c.loop-place.place-index c.loop-place-test.true

pub loop-place-preserved : goal.loop-place-preserved
loop-place-preserved g c = (
  λ m same.
      let ys = c.places-place-items.result.now in
      let i = c.loop-place.place-index in
      let s = stands c.args.plan.now ys c.places-place-items.ensures.value i c.loop-place-test.true m same in
      let more = lines_more g.K.Kind g.K.Coded m.P m.Q m.places i s.inside in
      let here = c.place_len-len.ensures.value m i s in
      omega (arith, c.loop-place.invariant.0 m same, here, ap length more, length-append (place_lines g.K.Kind g.K.Coded m.P m.Q (take i m.places)) (place_line g.K.Kind g.K.Coded m.P m.Q (place_at m i))),
  omega (arith, c.loop-place.invariant.1, c.place_len-len.ensures.small),
  below_more _ _ c.loop-place.invariant.2
      (subst (λ xs. (laid_at xs c.loop-place.place-index).cause ≤ most_cause) c.places-place-items.ensures.value c.place_len-len.ensures.byte),
)

pub returns-clause-value : goal.returns-clause-value
returns-clause-value g c = λ m same.
    let n = places_count c.args.plan.now c.places-place-items.result.now c.places-place-items.ensures.value m same in
    let all = ap (λ xs. length (place_lines g.K.Kind g.K.Coded m.P m.Q xs)) (take_all c.loop-place.place-index m.places (omega (arith, n, c.loop-place-test.false))) in
    omega (arith, c.loop-place.invariant.0 m same, all, length-file g.K.Kind g.K.Coded m)

pub returns-clause-bytes : goal.returns-clause-bytes
returns-clause-bytes g c =
    let n = ap length c.places-place-items.ensures.value in
    bytes_there (places_of c.args.plan.now) (λ k h. c.loop-place.invariant.2 k (omega (arith, n, c.loop-place-test.false)))
