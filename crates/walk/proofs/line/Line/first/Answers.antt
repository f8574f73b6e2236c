use Rattle.std.proofs.Common.{arith}
use Rattle.walk.proofs.Walks.{short}
use Rattle.walk.proofs.line.Line.first.Goals as goal

pub returns-then-y-self : goal.returns-then-y-self
returns-then-y-self c u v p = omega (arith, short c.args.self c.loop-self.x c.loop-self.y c.loop-self.invariant.ahead u v p (omega arith), p.low)

pub loop-self-preserved : goal.loop-self-preserved
loop-self-preserved c = record {
  left = c.loop-self.invariant.left;
  low = omega (arith, c.loop-self.invariant.low);
  ahead = λ u v p.
      let m = short c.args.self c.loop-self.x c.loop-self.y c.loop-self.invariant.ahead u v p (omega arith) in
      (m.0, omega (arith, m.1));
}
