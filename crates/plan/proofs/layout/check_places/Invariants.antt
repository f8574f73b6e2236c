use Rattle.std.proofs.Common.{◌≡◌, drop, None}
use Rattle.mojette.specs.Meaning.{places_verdict}
use Rattle.plan.proofs.layout.check_places.Given as goal

-- What is left decides.
abbrev pub invariant-loop-i : goal.invariant-loop-i
invariant-loop-i l = places_verdict l.i l.last (drop l.i l.records) ≡ places_verdict 0 None l.records
