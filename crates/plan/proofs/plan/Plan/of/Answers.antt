use Rattle.std.proofs.Common.{rules, ◌≡◌, true, Ok, Err, sym, ◌∙◌, subst, inl, inr, ⊎_elim}
use Rattle.std.proofs.lemmas.Result.{err_from_is_err_and}
use Rattle.mojette.specs.declared.fault.Fault.TheVariants.{PlaceCount}
use Rattle.mojette.specs.Faults.{refusal_of}
use Rattle.mojette.specs.Meaning.{side_ok}
use Rattle.plan.proofs.Layouts.{wrong_size, wrong_number, by_places}
use Rattle.plan.proofs.Wrong.{tells_first}
use Rattle.plan.proofs.plan.Plan.of.Goals as goal

pub returns-in_err-size-clause-plan : goal.returns-in_err-size-clause-plan
returns-in_err-size-clause-plan c =
    let p = err_from_is_err_and c.from_residual.result c.from_residual.ensures.1 in
    rw (p.1, p.2) (wrong_size c.args.columns c.args.rows c.args.records.now (refusal_of c.in_err-size.field-0.0) c.in_err-size.ensures.verdict)

pub returns-then-records-lt1-clause-plan : goal.returns-then-records-lt1-clause-plan
returns-then-records-lt1-clause-plan c =
    let size = c.in_ok-size.size in
    wrong_number c.args.columns c.args.rows c.args.records.now
    (subst (λ n. side_ok n ≡ true) c.in_ok-size.ensures.value.0 size.columns_ok) (subst (λ n. side_ok n ≡ true) c.in_ok-size.ensures.value.1 size.rows_ok)
    (⊎_elim (λ few. inl few) (λ many. inr many.1) c.then-records-lt1.either)

pub returns-in_err-check_places-clause-plan : goal.returns-in_err-check_places-clause-plan
returns-in_err-check_places-clause-plan c =
    let size = c.in_ok-size.size in
    let p = err_from_is_err_and c.from_residual-in_err-check_places.result c.from_residual-in_err-check_places.ensures.1 in
    rw (p.1, p.2)
    (by_places c.args.columns c.args.rows c.args.records.now
    (subst (λ n. side_ok n ≡ true) c.in_ok-size.ensures.value.0 size.columns_ok) (subst (λ n. side_ok n ≡ true) c.in_ok-size.ensures.value.1 size.rows_ok)
    c.if-records-lt1.false c.if-records-gt-MOST_PLACES.false
    ∙ sym c.in_err-check_places.ensures)

pub returns-in_err-size-clause-first : goal.returns-in_err-size-clause-first
returns-in_err-size-clause-first c = tells_first _ _ (returns-in_err-size-clause-plan c)

pub returns-then-records-lt1-clause-first : goal.returns-then-records-lt1-clause-first
returns-then-records-lt1-clause-first c = tells_first _ (Err PlaceCount) (returns-then-records-lt1-clause-plan c)

pub returns-in_err-check_places-clause-first : goal.returns-in_err-check_places-clause-first
returns-in_err-check_places-clause-first c = tells_first _ _ (returns-in_err-check_places-clause-plan c)

pub returns-clause-first : goal.returns-clause-first
returns-clause-first c =
    tells_first (record { P = c.args.columns; Q = c.args.rows; records = c.args.records.now }) (Ok c.lay_out.result) (search rules)
