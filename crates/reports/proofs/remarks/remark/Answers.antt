use Rattle.std.proofs.Common.{sym, subst, ◌∙◌}
use Rattle.std.proofs.lemmas.Result.{IfOk-weaker}
use Rattle.mojette.specs.Faults.{refusal_of}
use Rattle.reports.specs.Remarks.{Remarks, of_refusal, of_tile, of_none}
use Rattle.reports.proofs.remarks.remark.Goals as goal

pub returns-in-Some : goal.returns-in-Some
returns-in-Some c =
    IfOk-weaker _ _ _ (λ s e. subst (Remarks c.args.text.now c.args.listing.now) (sym e) (of_refusal c.in-Some.fault (sym c.fault_in.ensures ∙ c.in-Some.is))) c.sentence_line.ensures

pub returns-in-Ok : goal.returns-in-Ok
returns-in-Ok c =
    IfOk-weaker _ _ _ (λ s e. subst (Remarks c.args.text.now c.args.listing.now) (sym e) (of_tile c.in-Ok.plan (sym c.fault_in.ensures ∙ c.in-None.is) (sym c.in-Ok.ensures))) c.ghost_report.ensures

pub returns-in-Err : goal.returns-in-Err
returns-in-Err c =
    subst (Remarks c.args.text.now c.args.listing.now) (sym c.new.ensures.bytes) (of_none (refusal_of c.in-Err.field-0) (sym c.fault_in.ensures ∙ c.in-None.is) (sym c.in-Err.ensures))
