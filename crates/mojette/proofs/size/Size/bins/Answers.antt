use Rattle.std.proofs.Common.{◌-◌, ◌*◌, nat_abs, ap, ◌∙◌, arith, w32, SFits, rules}
use Rattle.std.proofs.lemmas.Int.{to_z-of_z}
use Rattle.mojette.proofs.Bounds.{bins_most}
use Rattle.mojette.proofs.size.Size.bins.Goals as goal

pub returns-clause-few : goal.returns-clause-few
returns-clause-few c = λ law.
    let size = c.args.self in
    let p : SFits w32 c.args.direction.p = search rules in
    let q : SFits w32 c.args.direction.q = search rules in
    let across = c.unsigned_abs-across.ensures.value ∙ ap nat_abs (to_z-of_z w32 c.args.direction.p p) in
    let down = c.unsigned_abs-down.ensures.value ∙ ap nat_abs (to_z-of_z w32 c.args.direction.q q) in
    omega (
      arith,
      ap (λ n. (size.columns - 1) * n) down,
      ap (λ n. (size.rows - 1) * n) across,
      bins_most c.args.direction law size.columns size.rows size.few_columns size.few_rows,
    )
