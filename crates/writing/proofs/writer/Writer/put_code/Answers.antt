use Rattle.std.proofs.Common.{◌+◌, refl, ap, rules, arith}
use Rattle.samples.specs.Reading.{code}
use Rattle.writing.proofs.OfSplices.{written_cells}
use Rattle.writing.proofs.writer.Writer.put_code.Goals as goal

pub returns : goal.returns
returns g c =
    let w = rw c.unwrap.ensures at c.write_code.ensures in
    record {
      same_table = refl;
      same_length = search rules;
      filled = ap (λ n. c.args.self.now.filled + n) w.0;
      inside = omega (arith, c.requires);
      cells = written_cells c.args.self.now.filled c.args.self.now.table.now (code g.K.Coded c.args.sample) c.write_code.new.out (omega (arith, c.requires)) w.1;
    }
