use Rattle.std.proofs.Common.{◌≡◌, ◌+◌, ◌*◌, ◌^◌, ◌<◌, length, drop}
use Rattle.samples.specs.Codes.{hex_number, all_hex}
use Rattle.samples.proofs.codes.read_code.Given as goal

abbrev pub invariant-loop-b : goal.invariant-loop-b
invariant-loop-b g l = (l.n < 16 ^ l.b-index) × (l.n * 16 ^ length (drop l.b-index l.word) + hex_number (drop l.b-index l.word) ≡ hex_number l.word) × (all_hex (drop l.b-index l.word) ≡ all_hex l.word)
