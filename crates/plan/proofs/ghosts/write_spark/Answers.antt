use Rattle.std.proofs.Common.{◌≡◌, ℕ, ◌*◌, ◌<◌, length, get_or, set, sym, ap, ◌∙◌, ⊎_elim, mul-le-mul, get_or-set_other, get_or-set_same, arith}
use Rattle.std.proofs.lemmas.List.{get_or_append_left, length-set, length-take}
use Rattle.std.proofs.lemmas.Bool.{cond-true, cond-false, cases_eq, eq-eqb, ne_eqb}
use Rattle.plan.proofs.Shows.{sparked, spark_shown}
use Rattle.plan.proofs.ghosts.write_spark.Goals as goal

pub returns-clause-shows : goal.returns-clause-shows
returns-clause-shows g c =
    let K = g.K.Kind in
    let P = c.args.size.columns in
    let Q = c.args.size.rows in
    let at = c.args.at in
    let cells = set c.clear.new.cells at c.spark_sample.result in
    let count : length c.clear.new.cells ≡ P * Q = omega (arith, c.clear.auto.cells, length-take c.pixels.result c.args.picture.now, c.requires.room, c.pixels.ensures) in
    let long : length cells ≡ P * Q = length-set c.clear.new.cells at c.spark_sample.result ∙ count in
    let room : at < P * Q = omega (arith, c.requires.inside, mul-le-mul {n₁ = P} {m₁ = 1} {n₂ = P} {m₂ = Q} (omega arith) c.args.size.some_rows) in
    let holds : (i : ℕ) → i < P * Q → get_or cells i K.zero ≡ sparked K P Q at i =
    λ i h. ⊎_elim
    (λ yes.
    ap (λ j. get_or cells j K.zero) yes ∙ get_or-set_same c.clear.new.cells at c.spark_sample.result K.zero (omega arith) ∙ c.spark_sample.ensures
    ∙ sym (cond-true _ _ _ (eq-eqb i at yes)))
    (λ no. get_or-set_other c.clear.new.cells at i c.spark_sample.result K.zero no ∙ c.clear.ensures i ∙ sym (cond-false _ _ _ (ne_eqb i at no)))
    (cases_eq i at) in
    spark_shown K P Q at c.requires.inside c.args.size.some_rows _ (λ i h. get_or_append_left cells _ K.zero i (omega arith) ∙ holds i h)
