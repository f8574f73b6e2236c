use Rattle.std.proofs.Common.{w32, SFits, rules}
use lib.Signed.{lt_z}
use Rattle.mojette.proofs.Products.{product_is}
use Rattle.mojette.proofs.direction.Direction.is_before.Goals as goal

pub returns : goal.returns
returns c =
    let a : SFits w32 c.args.other.p = search rules in
    let b : SFits w32 c.args.self.q = search rules in
    let d : SFits w32 c.args.self.p = search rules in
    let e : SFits w32 c.args.other.q = search rules in
    λ i. lt_z (product_is c.args.other.p c.args.self.q _ _ a b c.from.ensures c.from-2.ensures i)
    (product_is c.args.self.p c.args.other.q _ _ d e c.from-3.ensures c.from-4.ensures i)
