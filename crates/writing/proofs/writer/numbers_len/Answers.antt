use Rattle.std.proofs.Common.{◌≡◌, ◌+◌, ◌*◌, get_or, ◌≤◌, ◌^◌, ◌∷◌, length, decimal, sym, ◌∙◌, add-one, rules, arith}
use Rattle.std.specs.List.{sum_by}
use Rattle.std.proofs.iter.runs.Made.{chains}
use Rattle.std.proofs.lemmas.Fmt.{length-decimal-le}
use Rattle.std.proofs.lemmas.Grind.{get_or_default_zero}
use Rattle.std.proofs.lemmas.Iterator.{YieldsList-from_slice}
use Rattle.std.proofs.lemmas.Iterator.Adapters.{fits_from_length, at_most_from_yields_List}
use Rattle.std.proofs.lemmas.List.Concat.{length-flat_map}
use Rattle.std.proofs.lemmas.List.Sums.{sum_by-le}
use Rattle.writing.proofs.writer.numbers_len.Goals as goal

pub sum-requires-clause-fits : goal.sum-requires-clause-fits
sum-requires-clause-fits c =
    fits_from_length _ _ 4 (2 ^ 64) (at_most_from_yields_List (YieldsList-from_slice c.args.numbers.now cc) (omega (arith, c.requires))) c.map.ensures.closure (omega arith) (λ x r q k. search rules)

pub returns-clause-value : goal.returns-clause-value
returns-clause-value c =
    let e : c.sum.result ≡ sum_by (λ n. length (decimal n) + 1) c.args.numbers.now = search (rules, chains) in
    e ∙ (λ i. sum_by (λ n. add-one (length (decimal n)) i) c.args.numbers.now) ∙ sym (length-flat_map (λ n. 32 ∷ decimal n) c.args.numbers.now)

pub returns-clause-short : goal.returns-clause-short
returns-clause-short c =
    let e : c.sum.result ≡ sum_by (λ n. length (decimal n) + 1) c.args.numbers.now = search (rules, chains) in
    let s : sum_by (λ n. length (decimal n) + 1) c.args.numbers.now ≤ length c.args.numbers.now * 21 =
    sum_by-le (λ n. length (decimal n) + 1) 21 c.args.numbers.now
    (λ k d h. rw (get_or_default_zero c.args.numbers.now k d h) (omega (arith, length-decimal-le 20 (get_or c.args.numbers.now k 0) (omega arith) (search rules) (search rules)))) in
    omega arith
