-- What a plan has at most.
use Rattle.std.proofs.Common.{◌≤◌, arith}
use Rattle.std.proofs.lemmas.Nat.{mul-le}
use Rattle.mojette.specs.Bounds.{most_side, most_pixels, most_positions}
use Rattle.mojette.specs.Meaning.{pixels_of, bins_of}
use Rattle.peeling.specs.Steps.{most}
use Rattle.plan.specs.declared.plan.Plan.{Plan}
use Rattle.plan.specs.Shapes.{shape}

pub few : (plan : Plan) → bins_of (shape plan) ≤ most_positions
few plan = omega (arith, plan.full, plan.few_bins)

-- the cells of a tile
pub few_pixels : (plan : Plan) → pixels_of (shape plan) ≤ most_pixels
few_pixels plan = omega (arith, mul-le plan.size.columns plan.size.rows most_side most_side plan.size.few_columns plan.size.few_rows)

-- a state can count them
pub few_counted : (plan : Plan) → bins_of (shape plan) ≤ most
few_counted plan = omega (arith, few plan)
