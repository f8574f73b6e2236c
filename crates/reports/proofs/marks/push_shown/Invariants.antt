use Rattle.std.proofs.Common.{◌≡◌, ◌++◌, map, take}
use Rattle.reports.specs.Marks.{shown}
use Rattle.reports.proofs.marks.push_shown.Given as goal

abbrev pub invariant-loop-byte : goal.invariant-loop-byte
invariant-loop-byte l = l.out.items ≡ l.initial.out.items ++ map shown (take l.byte-index l.bytes)
