use Rattle.std.proofs.Common.{◌≡◌, ◌+◌, ◌<◌, ◌≤◌, false, [], ◌∷◌, ◌++◌, length, get_or, take, is_some, sym, ap, ◌∙◌, subst, zero-add, arith}
use Rattle.std.proofs.lemmas.List.{take_more, take_more_set, take_all, length-set}
use Rattle.mojette.specs.declared.direction.Record.{Record}
use Rattle.mojette.specs.Bins.{bins, all_bins}
use Rattle.mojette.specs.Bounds.{most_bins}
use Rattle.mojette.specs.Meaning.{verdict}
use Rattle.mojette.proofs.Bounds.{bins_most}
use Rattle.plan.specs.Laid.{laid, shape_from}
use Rattle.plan.specs.Layouts.{laid_out}
use Rattle.plan.proofs.Layouts.{lawful_at, bins_more, out_more, stands_at_end, by_places}
use Rattle.plan.proofs.Verdicts.{no_record}
use Rattle.plan.proofs.layout.lay_out.Goals as goal

-- The bins of the place that is laid.
size_is : (c : goal.After-struct_known-1) → c.lay-place.result.bins ≡ bins c.args.size.columns c.args.size.rows (get_or c.args.records.now c.loop-i.i no_record).direction
size_is c = ap (λ x. x.bins) c.lay-place.ensures

size_few : (c : goal.After-struct_known-1) → c.lay-place.result.bins ≤ most_bins
size_few c =
    let law = lawful_at 0 _ c.args.records.now c.requires.places c.loop-i.i c.loop-i-test.true in
    subst (λ n. n ≤ most_bins) (sym (size_is c))
    (bins_most (get_or c.args.records.now c.loop-i.i no_record).direction law c.args.size.columns c.args.size.rows c.args.size.few_columns c.args.size.few_rows)

pub overflow_add-total : goal.overflow_add-total
overflow_add-total c = let few = size_few c in let v = c.loop-i.invariant in omega (arith, c.requires.number.1)

pub loop-i-preserved : goal.loop-i-preserved
loop-i-preserved c =
    let P = c.args.size.columns in
    let Q = c.args.size.rows in
    let es = c.args.records.now in
    let i = c.loop-i.i in
    let e : Record = get_or es i no_record in
    let v = c.loop-i.invariant in
    let room : i < length c.loop-i.places = omega (arith, c.requires.number.1) in
    let more = take_more es i no_record c.loop-i-test.true in
    let place : c.lay-place.result ≡ laid P Q e (0 + all_bins P Q (take i es)) = c.lay-place.ensures ∙ ap (laid P Q e) (v.1 ∙ sym (zero-add (all_bins P Q (take i es)))) in
    let few = size_few c in
    let size = size_is c in (
      take_more_set c.loop-i.places i c.lay-place.result room ∙ (λ j. v.0 j ++ (place j ∷ [])) ∙ sym (out_more P Q 0 (take i es) e) ∙ ap (laid_out P Q 0) (sym more),
      omega (arith, ap (all_bins P Q) more, bins_more P Q (take i es) e),
      omega arith,
      omega arith,
      length-set c.loop-i.places i c.lay-place.result ∙ v.4,
    )

pub invariant_of-result : goal.invariant_of-result
invariant_of-result c =
    let P = c.args.size.columns in
    let Q = c.args.size.rows in
    let es = c.args.records.now in
    let v = c.loop-i.invariant in
    let end : c.loop-i.i ≡ length es = omega arith in
    let all = stands_at_end P Q c.loop-i.i es c.loop-i.places c.requires.places end v.0 in
    let total : c.loop-i.total ≡ all_bins P Q es = v.1 ∙ ap (all_bins P Q) (ap (λ n. take n es) end ∙ take_all (length es) es (omega arith)) in
    let lawful : is_some (verdict (shape_from P Q (take (length es) c.loop-i.places))) ≡ false =
    ap (λ xs. is_some (verdict (record { P = P; Q = Q; records = xs }))) all.same ∙ ap is_some (by_places P Q es c.args.size.columns_ok c.args.size.rows_ok c.requires.number.0 c.requires.number.1 ∙ c.requires.places) in
    let some = c.requires.number.0 in
    let few = c.requires.number.1 in
    record {
      lawful = lawful;
      starts = all.starts;
      sizes = all.sizes;
      full = total ∙ all.full;
      some_places = some;
      few_places = few;
      some_bins = omega arith;
      few_bins = omega arith;
    }

pub returns : goal.returns
returns c =
    let P = c.args.size.columns in
    let Q = c.args.size.rows in
    let end : c.loop-i.i ≡ length c.args.records.now = omega arith in
    let all = stands_at_end P Q c.loop-i.i c.args.records.now c.loop-i.places c.requires.places end c.loop-i.invariant.0 in
    λ i. record { P = P; Q = Q; records = all.same i }
