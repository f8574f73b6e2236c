use Rattle.std.proofs.Common.{◌≡◌, ◌^◌, ◌<◌, ◌++◌, drop}
use Rattle.samples.specs.Codes.{hex_text}
use Rattle.samples.proofs.codes.write_code.Given as goal

-- What is left to write, before the cells that are written, makes the whole code.
abbrev pub invariant-loop-i : goal.invariant-loop-i
invariant-loop-i g l = (l.rest < 16 ^ l.i) × (hex_text l.i l.rest ++ drop l.i l.out ≡ hex_text l.width l.initial.rest ++ drop l.width l.initial.out)
