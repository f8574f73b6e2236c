-- What is found at the head of the ring.
use Rattle.std.specs.Prelude.{◌≡◌, ℕ, ◌<◌, Some, None, Ok, Err, Option, Result}
use Rattle.mojette.specs.declared.fault.Fault.{Fault}
use Rattle.mojette.specs.Faults.{refusal_of}
use Rattle.mojette.specs.Refusals.{Refusal, nothing_waits, wrong_cell}
use Rattle.peeling.specs.Steps.{Taken, none_waits, bad_cell, grants}

-- the refusal of a take that grants nothing
abbrev pub take_refusal : Taken → Option Refusal
take_refusal none_waits = Some nothing_waits
take_refusal (bad_cell i) = Some (wrong_cell i)
take_refusal (grants b) = None

-- The position that a take grants; or its refusal.
abbrev pub Fronts : Taken → ℕ → Result ℕ Fault → Type 0
Fronts a bins (Ok b) = (a ≡ grants b) × (b < bins)
Fronts a bins (Err e) = take_refusal a ≡ Some (refusal_of e)
