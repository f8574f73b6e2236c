use Rattle.std.proofs.Common.{◌≤◌, sym, ap, subst, arith}
use Rattle.plan.specs.Laid.{place_at}
use Rattle.walk.proofs.Laying.{bins_are, on_tile}
use Rattle.tile.proofs.load.fits_plan.Goals as goal

pub record_of-record-requires : goal.record_of-record-requires
record_of-record-requires g c =
    let plan = c.args.plan.now in
    let on = on_tile plan c.args.i c.requires 0 (omega (arith, bins_are plan c.args.i c.requires)) in
    let same = sym (ap (λ ys. place_at ys c.args.i) c.places-places.ensures.value) in
    (subst (λ x. x.slope ≤ 7) same on.s_most, subst (λ x. x.q ≤ 7) same on.q_most)
