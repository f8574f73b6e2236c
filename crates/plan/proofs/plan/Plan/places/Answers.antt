use Rattle.std.proofs.Common.{◌≡◌, ◌-◌, ◌≤◌, sym, subst, rules}
use Rattle.std.specs.List.{All}
use borrow.Rule.Slice.PartMut.{mid_of}
use Rattle.mojette.specs.Bounds.{most_bins}
use Rattle.plan.specs.declared.places.Place.{Place}
use Rattle.plan.specs.Shapes.{places_of}
use Rattle.plan.proofs.Lawful.{few_bins}
use Rattle.plan.proofs.plan.Plan.places.Goals as goal

pub returns-clause-few_bins : goal.returns-clause-few_bins
returns-clause-few_bins c =
    let plan = c.args.self.now in
    let all : mid_of 0 (plan.count - 0) plan.places ≡ places_of plan = search rules in
    subst (All (λ (x : Place). x.bins ≤ most_bins)) (sym all) (few_bins plan)
