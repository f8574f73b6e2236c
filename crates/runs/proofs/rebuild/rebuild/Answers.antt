use Rattle.std.proofs.Common.{◌≡◌, Some, None, sym, refl, ◌∙◌}
use Rattle.std.proofs.lemmas.Result.{err_from_is_err_and}
use Rattle.mojette.specs.Faults.{refusal_of}
use Rattle.mojette.specs.Refusals.{Refusal}
use Rattle.law.proofs.Outcome.{law}
use Rattle.tile.specs.Worlds.{contents}
use Rattle.tile.proofs.Keeping.{same_tables}
use Rattle.tile.proofs.Living.{calls_live}
use Rattle.runs.specs.Rebuilding.{Rebuilds, unlawful, answer}
use Rattle.runs.proofs.Alone.{peels_to_rest}
use Rattle.runs.proofs.Endings.{begins, short_refused, short_unready, short_steps, unlawful_steps, serves_exactly}
use Rattle.runs.proofs.rebuild.rebuild.Goals as goal

-- no shape is both lawful and refused
never : (r : Refusal) → None ≡ Some r → ⊥
never r e = cc

pub returns-in_err-tile : goal.returns-in_err-tile
returns-in_err-tile g c =
    let K = g.S.Sample.Kind in
    let m = g.S.Source.meaning c.args.source.now in
    let before = contents c.args.tables.now in
    let p = err_from_is_err_and c.from_residual.result c.from_residual.ensures.1 in
    let opens = c.in_err-tile.ensures in
    let run : Rebuilds K m before (answer c.from_residual.result) before = rw (p.1, p.2) (unlawful opens.0) in
    record {
      lent = same_tables c.args.tables.now;
      run = run;
      by_steps = rw (p.1, p.2) (unlawful_steps K m before (refusal_of c.in_err-tile.field-0.0) opens.0);
      exactly = serves_exactly K m before (answer c.from_residual.result) before run;
      plan = (λ ready. absurd (never (refusal_of c.in_err-tile.field-0.0) (sym ready.lawful ∙ opens.0)), λ unready. refl);
      law = law K;
      calls = calls_live K;
      alone = peels_to_rest K;
    }

pub returns-in_err-check : goal.returns-in_err-check
returns-in_err-check g c =
    let K = g.S.Sample.Kind in
    let m = g.S.Source.meaning c.args.source.now in
    let before = contents c.args.tables.now in
    let opens = c.in_ok-tile.ensures in
    let plan = c.open.new.plan in
    let p = err_from_is_err_and c.from_residual-in_err-check.result c.from_residual-in_err-check.ensures.1 in
    let r = refusal_of c.in_err-check.field-0.0 in
    let run : Rebuilds K m before (answer c.from_residual-in_err-check.result) before = rw (p.1, p.2) (short_refused K m plan opens.0 opens.1 before r c.in_err-check.ensures) in
    record {
      lent = same_tables c.args.tables.now;
      run = run;
      by_steps = rw (p.1, p.2) (short_steps K m plan opens.0 opens.1 before r c.in_err-check.ensures);
      exactly = serves_exactly K m before (answer c.from_residual-in_err-check.result) before run;
      plan = (λ ready. absurd (short_unready K m plan opens.0 opens.1 before r c.in_err-check.ensures ready), λ unready. refl);
      law = law K;
      calls = calls_live K;
      alone = peels_to_rest K;
    }

pub returns-clause-exactly : goal.returns-clause-exactly
returns-clause-exactly g c =
    serves_exactly g.S.Sample.Kind (g.S.Source.meaning c.args.source.now) (contents c.args.tables.now)
    (answer c.run.result) (contents c.run.new.tables) c.run.ensures.run

pub returns-clause-plan : goal.returns-clause-plan
returns-clause-plan g c =
    let m = g.S.Source.meaning c.args.source.now in
    let before = contents c.args.tables.now in
    let opens = c.in_ok-tile.ensures in
    (λ ready. opens.1, λ unready. absurd (unready (begins g.S.Sample.Kind m c.open.new.plan opens.0 opens.1 before c.in_ok-check.ensures)))

pub returns-clause-law : goal.returns-clause-law
returns-clause-law g c = law g.S.Sample.Kind

pub returns-clause-calls : goal.returns-clause-calls
returns-clause-calls g c = calls_live g.S.Sample.Kind

pub returns-clause-alone : goal.returns-clause-alone
returns-clause-alone g c = peels_to_rest g.S.Sample.Kind
