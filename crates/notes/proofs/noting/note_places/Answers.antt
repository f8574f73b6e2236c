use Rattle.std.proofs.Common.{◌≡◌, ◌+◌, ◌-◌, ◌≤◌, length, ap, ◌∙◌, arith, rules}
use Rattle.std.proofs.lemmas.List.{length-take, length-drop}
use borrow.Rule.Slice.PartMut.{mid_of}
use Rattle.plan.specs.Laid.{place_at as nth}
use Rattle.plan.proofs.Lawful.{place_lawful}
use Rattle.walk.proofs.Laying.{turn, all_starts}
use Rattle.notes.proofs.Tables.{steps_of, bins_of_place, one_place_more}
use Rattle.notes.proofs.noting.note_places.Goals as goal

pub overflow_add-place : goal.overflow_add-place
overflow_add-place c =
    let t = turn c.args.plan.now c.places-place-items.result.now c.loop-place.place-index c.places-place-items.ensures.value c.loop-place-test.true in
    let few = c.args.plan.now.few_bins in
    let h = t.inside in
    search rules

pub offset_bounds-notes-place : goal.offset_bounds-notes-place
offset_bounds-notes-place c =
    let t = turn c.args.plan.now c.places-place-items.result.now c.loop-place.place-index c.places-place-items.ensures.value c.loop-place-test.true in
    let few = c.args.plan.now.few_bins in
    let h = t.inside in
    search rules

pub slice_bounds-note_place-end : goal.slice_bounds-note_place-end
slice_bounds-note_place-end c =
    let t = turn c.args.plan.now c.places-place-items.result.now c.loop-place.place-index c.places-place-items.ensures.value c.loop-place-test.true in
    let x = nth c.places-place-items.result.now c.loop-place.place-index in
    let h : x.start + x.bins ≤ length c.loop-place.notes = omega (arith, t.inside, c.requires.room, c.args.plan.now.full, c.loop-place.auto.notes) in
    search rules

pub note_place-requires : goal.note_place-requires
note_place-requires c =
    let plan = c.args.plan.now in
    let i = c.loop-place.place-index in
    let xs = c.places-place-items.result.now in
    let e = c.places-place-items.ensures.value in
    let t = turn plan xs i e c.loop-place-test.true in
    let x = nth xs i in
    let law = place_lawful plan xs i e c.loop-place-test.true in
    record {
      steps = steps_of x law;
      direction = law;
      tile = c.requires.tile;
      room = simp (length-take, length-drop) (omega (
        arith,
        bins_of_place plan i t.known c.size-size.result x c.size-size.ensures.columns c.size-size.ensures.rows t.same,
        t.inside,
        c.requires.room,
        plan.full,
        c.loop-place.auto.notes,
      ));
    }

pub loop-place-preserved : goal.loop-place-preserved
loop-place-preserved c =
    let plan = c.args.plan.now in
    let i = c.loop-place.place-index in
    let xs = c.places-place-items.result.now in
    let t = turn plan xs i c.places-place-items.ensures.value c.loop-place-test.true in
    let x = nth xs i in
    let old = c.loop-place.notes in
    let room : x.start + x.bins ≤ length old = omega (arith, t.inside, c.requires.room, plan.full, c.loop-place.auto.notes) in
    let part : length (mid_of x.start (x.start + x.bins - x.start) old) ≡ x.bins = simp (length-take, length-drop) (omega arith) in
    one_place_more plan i t.known c.size-size.result x c.size-size.ensures.columns c.size-size.ensures.rows t.same old c.note_place.new.notes
    room (c.note_place.auto.notes ∙ part) (λ b l. c.note_place.ensures b (omega arith)) c.loop-place.invariant

pub returns : goal.returns
returns c = λ b l.
    let e = ap length c.places-place-items.ensures.value in
    let all = all_starts c.args.plan.now c.loop-place.place-index (omega (arith, c.loop-place.auto.place-index-end)) (omega (arith, c.loop-place-test.false)) in
    c.loop-place.invariant b (omega arith)
