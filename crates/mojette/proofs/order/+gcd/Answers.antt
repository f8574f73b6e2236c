use Rattle.std.proofs.Common.{sym, ap, ◌∙◌}
use Rattle.mojette.specs.Directions.{gcd}
use Rattle.mojette.proofs.Euclid.{euclid}
use Rattle.mojette.proofs.order.+gcd.Goals as goal

pub returns-then-b-eq0 : goal.returns-then-b-eq0
returns-then-b-eq0 t c = record { value = sym (ap (gcd c.args.a) c.if-b-eq0.true ∙ euclid.ends c.args.a); rule = euclid }
