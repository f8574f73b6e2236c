-- Laying out the places of a shape.
use Rattle.std.specs.Prelude.{◌≡◌, ℕ, ◌+◌, List, [], ◌∷◌, Some, None, Ok, Err, Result}
use Rattle.mojette.specs.declared.direction.Record.{Record}
use Rattle.mojette.specs.declared.fault.Fault.{Fault}
use Rattle.mojette.specs.Bins.{bins}
use Rattle.mojette.specs.Faults.{refusal_of}
use Rattle.mojette.specs.Meaning.{Shape, verdict}
use Rattle.plan.specs.declared.places.Place.{Place}
use Rattle.plan.specs.declared.plan.Plan.{Plan}
use Rattle.plan.specs.Laid.{laid}
use Rattle.plan.specs.Shapes.{shape}

-- the places of records, one after another from position `at` on
abbrev pub laid_out : ℕ → ℕ → ℕ → List Record → List Place
laid_out P Q at [] = []
laid_out P Q at (e ∷ es) = laid P Q e at ∷ laid_out P Q (at + bins P Q e.direction) es

-- A lawful shape has its plan, and any other the first refusal.
abbrev pub Plans : Shape → Result Plan Fault → Type 0
Plans s (Ok plan) = (verdict s ≡ None) × (shape plan ≡ s)
Plans s (Err e) = verdict s ≡ Some (refusal_of e)
