-- The positions of a lawful shape are few, so that no count of the peeling state reaches its end.
use Rattle.std.proofs.Common.{◌≤◌, arith}
use Rattle.mojette.specs.Meaning.{Shape, bins_of, Lawful}
use Rattle.mojette.proofs.Bounds.{all_bins_most}
use Rattle.peeling.specs.Steps.{most}
use Rattle.law.proofs.Opening.{opens}

pub positions_few : (s : Shape) → Lawful s → bins_of s ≤ most
positions_few s law =
    let o = opens s law in
    let few = all_bins_most s.P s.Q s.records o.columns.most o.rows.most o.directions.each in
    let n = o.number.most in
    omega arith
