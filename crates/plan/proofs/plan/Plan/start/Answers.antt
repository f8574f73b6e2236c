use Rattle.std.proofs.Common.{◌≡◌, ◌≤◌, length, sym, ◌∙◌, subst, arith, rules}
use Rattle.std.proofs.lemmas.List.{length-map}
use Rattle.mojette.specs.Bins.{start}
use Rattle.plan.specs.Laid.{record_of, records_of}
use Rattle.plan.specs.Shapes.{places_of}
use Rattle.plan.proofs.Starts.{start_beyond, start_most}
use Rattle.plan.proofs.plan.Plan.start.Goals as goal

pub returns-in-None-clause-value : goal.returns-in-None-clause-value
returns-in-None-clause-value c =
    let plan = c.args.self.now in
    let beyond : length (places_of plan) ≤ c.args.i = subst (λ xs. length xs ≤ c.args.i) c.places.ensures.value c.in-None.ensures.lookup.3 in
    let e = length-map (places_of plan) record_of in
    plan.full ∙ sym (start_beyond plan.size.columns plan.size.rows (records_of (places_of plan)) c.args.i (omega arith))

pub returns-in-Some-clause-few : goal.returns-in-Some-clause-few
returns-in-Some-clause-few c =
    let plan = c.args.self.now in
    let at : c.in-Some.place.now.start ≡ start plan.size.columns plan.size.rows (records_of (places_of plan)) c.args.i = search rules in
    omega (arith, at, plan.full, plan.few_bins, start_most plan.size.columns plan.size.rows (records_of (places_of plan)) c.args.i)
