use Rattle.std.proofs.Common.{◌≡◌, map, take}
use Rattle.source.proofs.lawful.plan_of.Given as goal

-- The records so far are those of the meaning.
abbrev pub invariant-loop-i : goal.invariant-loop-i
invariant-loop-i g l = take l.i l.places ≡ map (λ x. x.entry) (take l.i (g.S.Source.meaning l.source).places)
