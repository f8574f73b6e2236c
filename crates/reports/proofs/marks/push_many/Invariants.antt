use Rattle.std.proofs.Common.{◌≡◌, ◌++◌, replicate}
use Rattle.reports.proofs.marks.push_many.Given as goal

abbrev pub invariant-loop-i : goal.invariant-loop-i
invariant-loop-i l = l.out.items ≡ l.initial.out.items ++ replicate l._i l.byte
