use Rattle.std.proofs.Common.{◌≡◌, ◌≤◌, min, drop}
use Rattle.std.specs.Str.{all_ascii_digits}
use Rattle.format.specs.Numbers.{read_on}
use Rattle.bracket.proofs.number.magnitude.Given as goal

abbrev pub invariant-loop-d : goal.invariant-loop-d
invariant-loop-d l = (l.n ≤ 1000) × (min 1000 (read_on l.n (drop l.d-index l.digits)) ≡ min 1000 (read_on 0 l.digits)) × (all_ascii_digits (drop l.d-index l.digits) ≡ all_ascii_digits l.digits)
