use Rattle.std.proofs.Common.{◌≡◌, refl, ◌∙◌, rules, length-take-le}
use Rattle.tile.proofs.Constants.{constant, filled_with}
use Rattle.tile.proofs.seal.fill.Goals as goal

pub returns : goal.returns
returns g c =
    let v = c.args.value in
    let same = constant _ (λ p. p.0.now ≡ v) v (λ p x q h called. search rules) _ c.fill_with.new.self _ refl c.fill_with.ensures.ran.1 in
    filled_with c.args.n v c.args.cells.now c.fill_with.new.self c.requires same (c.fill_with.ensures.len ∙ length-take-le c.args.n c.args.cells.now c.requires)
