use Rattle.std.proofs.Common.{◌≡◌, ◌<◌, true, length, sym, ap, ◌∙◌, subst, inl, inr, ⊎_elim}
use Rattle.std.proofs.lemmas.List.{length-map}
use Rattle.std.proofs.lemmas.Result.{err_from_is_err_and}
use Rattle.mojette.specs.Bounds.{most_places}
use Rattle.mojette.specs.Faults.{refusal_of}
use Rattle.mojette.specs.Meaning.{shape_of, side_ok, sides_verdict}
use Rattle.plan.proofs.Layouts.{wrong_size, wrong_number}
use Rattle.source.proofs.lawful.plan_of.Goals as goal

pub returns-in_err-size : goal.returns-in_err-size
returns-in_err-size g c =
    let m = g.S.Source.meaning c.args.source.now in
    let p = err_from_is_err_and c.from_residual.result c.from_residual.ensures.1 in
    let same = c.sizes-sizes.ensures in
    rw (p.1, p.2)
    (wrong_size m.P m.Q (shape_of m).records (refusal_of c.in_err-size.field-0.0) (c.in_err-size.ensures.verdict ∙ (λ j. sides_verdict (same j).columns (same j).rows)))

pub returns-then-count-lt1 : goal.returns-then-count-lt1
returns-then-count-lt1 g c =
    let m = g.S.Source.meaning c.args.source.now in
    let same = c.sizes-sizes.ensures in
    let size = c.in_ok-size.size in
    let number : length (shape_of m).records ≡ c.sizes-sizes.result.places = length-map m.places (λ x. x.entry) ∙ sym (ap (λ s. s.places) same) in
    wrong_number m.P m.Q (shape_of m).records
    (subst (λ n. side_ok n ≡ true) (c.in_ok-size.ensures.value.0 ∙ ap (λ s. s.columns) same) size.columns_ok)
    (subst (λ n. side_ok n ≡ true) (c.in_ok-size.ensures.value.1 ∙ ap (λ s. s.rows) same) size.rows_ok)
    (⊎_elim (λ few. inl (subst (λ n. n < 1) (sym number) few)) (λ many. inr (subst (λ n. most_places < n) (sym number) many.1)) c.then-count-lt1.either)
