-- What an open answers, and leaves in the plan.
use Rattle.std.specs.Prelude.{◌≡◌, Some, None, Ok, Err, Result}
use Rattle.mojette.specs.declared.fault.Fault.{Fault}
use Rattle.mojette.specs.Faults.{refusal_of}
use Rattle.mojette.specs.Meaning.{Meaning, shape_of, verdict}
use Rattle.plan.specs.declared.plan.Plan.{Plan}
use Rattle.plan.specs.Shapes.{shape}
use Rattle.tile.specs.declared.states.Loading.{Loading}

-- A lawful meaning is served: the plan has its shape, and no place is loaded. Any other is refused, and the plan is as it was.
abbrev pub Opens : {S : Type 0} → Meaning S → Plan → Result Loading Fault → Plan → Type 0
Opens m plan (Ok x) plan' = (verdict (shape_of m) ≡ None) × (shape plan' ≡ shape_of m) × (x ≡ 0)
Opens m plan (Err e) plan' = (verdict (shape_of m) ≡ Some (refusal_of e)) × (plan' ≡ plan)
