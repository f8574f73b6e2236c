use Rattle.std.proofs.Common.{◌≡◌}
use Rattle.mojette.specs.Bins.{start}
use Rattle.mojette.specs.Meaning.{pixels_of}
use Rattle.peeling.specs.Counting.{number}
use Rattle.peeling.specs.Steps.{filled}
use Rattle.law.specs.Positions.{incidence}
use Rattle.plan.specs.Laid.{records_of}
use Rattle.plan.specs.Shapes.{shape, places_of}
use Rattle.walk.proofs.counts.count_pixels.Given as goal

abbrev pub invariant-loop-place : goal.invariant-loop-place
invariant-loop-place l =
    l.counts
    ≡ filled (start l.plan.size.columns l.plan.size.rows (records_of (places_of l.plan)) l.place-index)
    (λ x. number (pixels_of (shape l.plan)) (λ c. (incidence (shape l.plan)).lies c x)) l.initial.counts
