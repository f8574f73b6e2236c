use Rattle.std.proofs.Common.{◌≡◌, ℕ, ◌<◌, Some, drop, slice_get, subst₂}
use Rattle.mojette.specs.Bins.{bins}
use Rattle.mojette.specs.Transform.{bin_sum}
use Rattle.plan.proofs.Leading.{leading}
use Rattle.plan.proofs.project.project.Goals as goal

pub returns-clause-sums : goal.returns-clause-sums
returns-clause-sums g c =
    let K = g.K.Kind in
    let d = c.args.direction in
    let picture = c.args.picture.now in
    let size = c.in_ok-size.size in
    let new = c.write_sums.new.sums in
    let n = bins size.columns size.rows d in
    subst₂ (λ P Q. (b : ℕ) → b < bins P Q d → slice_get new b ≡ Some (bin_sum K P Q picture d b))
    c.in_ok-size.ensures.value.0 c.in_ok-size.ensures.value.1
    (leading (bin_sum K size.columns size.rows picture d) n (drop n c.args.sums.now) new c.write_sums.ensures)
