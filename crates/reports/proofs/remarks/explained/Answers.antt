use Rattle.std.proofs.Common.{sym, subst}
use Rattle.std.proofs.lemmas.Result.{IfOk-weaker}
use Rattle.plan.specs.Shapes.{shape}
use Rattle.reports.specs.Remarks.{Explains, lawful, wrong}
use Rattle.reports.proofs.remarks.explained.Goals as goal

pub returns-in-Ok : goal.returns-in-Ok
returns-in-Ok c =
    IfOk-weaker _ _ _ (λ v e. subst (Explains c.args.text.now) (sym e) (lawful (shape c.in-Ok.plan) (sym c.in-Ok.ensures))) c.lawful_line.ensures

pub returns-in-Err : goal.returns-in-Err
returns-in-Err c =
    IfOk-weaker _ _ _ (λ v e. subst (Explains c.args.text.now) (sym e) (wrong c.in-Err.fault (sym c.in-Err.ensures))) c.wrong_lines.ensures
