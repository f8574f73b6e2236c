use Rattle.std.proofs.Common.{◌≡◌, ◌==◌, take, count_by, rules}
use Rattle.bracket.proofs.OfLineEnds.{lines_before}
use Rattle.bracket.proofs.file.line_of.Goals as goal

pub returns : goal.returns
returns c =
    let e : c.count.result ≡ count_by (λ b. b == 10) (take c.min.result c.args.text.now) = search rules in
    lines_before c.args.text.now c.args.byte c.min.result c.count.result c.min.ensures e
