use Rattle.std.proofs.Common.{◌≤◌, sym, ap, subst}
use Rattle.mojette.specs.Bounds.{most_bins}
use Rattle.exported.proofs.Refusals.{told_few}
use Rattle.exported.proofs.projecting.mojette_project.Goals as goal

pub returns-clause-few : goal.returns-clause-few
returns-clause-few c = subst (λ n. n ≤ most_bins) (sym (ap (λ a. a.0) c.tell.ensures)) (told_few c.project-answer.result most_bins c.project-answer.ensures.few)
