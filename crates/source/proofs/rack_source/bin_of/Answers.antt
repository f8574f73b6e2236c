use Rattle.std.proofs.Common.{arith, rules}
use Rattle.std.proofs.lemmas.Result.{err_from_is_err_and}
use Rattle.mojette.specs.Faults.{refusal_of}
use Rattle.source.proofs.Cuts.{run_of, no_place_answer, lost_answer, no_bin_answer, bin_inside, bin_answer}
use Rattle.source.proofs.rack_source.bin_of.Goals as goal

pub returns-in_err-record : goal.returns-in_err-record
returns-in_err-record g c =
    let p = err_from_is_err_and c.from_residual.result c.from_residual.ensures.1 in
    rw (p.1, p.2)
    (no_place_answer g.K.Kind c.args.plan.now.size.columns c.args.plan.now.size.rows c.args.records.now c.args.run.now c.args.i c.args.b
    (refusal_of c.in_err-record.field-0.0) c.in_err-record.ensures)

pub returns-then-record-ne0 : goal.returns-then-record-ne0
returns-then-record-ne0 g c =
    lost_answer g.K.Kind c.args.plan.now.size.columns c.args.plan.now.size.rows c.args.records.now c.args.run.now c.args.i c.args.b
    c.in_ok-record.record c.in_ok-record.ensures c.if-record-ne0.true

pub returns-then-b-place : goal.returns-then-b-place
returns-then-b-place g c =
    no_bin_answer g.K.Kind c.args.plan.now.size.columns c.args.plan.now.size.rows c.args.records.now c.args.run.now c.args.i c.args.b
    c.in_ok-record.record c.in_ok-record.ensures c.places.result.now
    (run_of c.args.plan.now c.args.records.now c.args.run.now c.places.result.now c.places.ensures.value c.requires.same c.requires.full)
    c.if-record-ne0.false c.if-b-place.true

pub bounds-run-place : goal.bounds-run-place
bounds-run-place g c =
    bin_inside g.K.Kind c.args.plan.now.size.columns c.args.plan.now.size.rows c.args.records.now c.args.run.now c.args.i c.args.b
    c.in_ok-record.record c.in_ok-record.ensures c.places.result.now
    (run_of c.args.plan.now c.args.records.now c.args.run.now c.places.result.now c.places.ensures.value c.requires.same c.requires.full)
    c.if-b-place.false

pub offset_bounds-run-place : goal.offset_bounds-run-place
offset_bounds-run-place g c = let inside = bounds-run-place g c in omega arith

pub overflow_add-result : goal.overflow_add-result
overflow_add-result g c = let inside = bounds-run-place g c in search rules

pub returns : goal.returns
returns g c =
    bin_answer g.K.Kind c.args.plan.now.size.columns c.args.plan.now.size.rows c.args.records.now c.args.run.now c.args.i c.args.b
    c.in_ok-record.record c.in_ok-record.ensures c.places.result.now
    (run_of c.args.plan.now c.args.records.now c.args.run.now c.places.result.now c.places.ensures.value c.requires.same c.requires.full)
    c.if-record-ne0.false c.if-b-place.false c.index-run-place.result c.index-run-place.is
