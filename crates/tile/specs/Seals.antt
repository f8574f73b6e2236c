-- What the parts of sealing do.
use Rattle.std.specs.Prelude.{◌≡◌, ℕ, zero, suc, true, false, cond, List, Ok, Err, Result, ◌==◌, slice_index}
use Rattle.samples.specs.declared.kind.Kind.{Ghosts as Operations}
use Rattle.mojette.specs.declared.fault.Fault.{Fault}
use Rattle.mojette.specs.Faults.{refusal_of}
use Rattle.mojette.specs.Meaning.{Shape, pixels_of}
use Rattle.mojette.specs.Refusals.{ghost_left}
use Rattle.peeling.specs.declared.state.State.{State}
use Rattle.peeling.specs.Steps.{appended, queue_with}
use Rattle.peeling.specs.Steps.{seal as peel_seal}
use Rattle.law.specs.Life.{LongEnough}
use Rattle.law.specs.Positions.{incidence}
use Rattle.law.specs.Steps.{loading, Tables, done, refuse, peels_on, world_of, blank, C, R, criterion, ghosted, seal}
use Rattle.tile.specs.declared.states.Loading.{Loading}
use Rattle.tile.specs.declared.states.Refused.{Refused}

-- the state of a tile of which all pixels are missing, and nothing is queued
abbrev pub unpeeled : Shape → State
unpeeled shape = record { head = 0; waiting = 0; out = 0; left = pixels_of shape; settled = 0 }

-- the state and the queue, with position b appended
abbrev pub with_position : ℕ → ℕ → State × List ℕ → State × List ℕ
with_position bins b r = (appended bins r.0, queue_with bins r.0 b r.1)

-- the state and the queue, with the positions below k whose count is 1 appended, rising
unfoldable pub singles_queued : ℕ → ℕ → List ℕ → State × List ℕ → State × List ℕ
singles_queued bins zero counts r = r
singles_queued bins (suc k) counts r = cond (slice_index counts k == 1) (with_position bins k (singles_queued bins k counts r)) (singles_queued bins k counts r)

-- The criterion holds, and the picture is as it was; or it fails, and the picture shows the ghost.
abbrev pub Judges : {S : Type 0} → Operations S → Shape → List S → Result (Unit {0}) Fault → List S → Type 0
Judges K shape picture (Ok _) picture' = (criterion shape ≡ true) × (picture' ≡ picture)
Judges K shape picture (Err e) picture' = (criterion shape ≡ false) × (picture' ≡ ghosted K shape picture) × (refusal_of e ≡ ghost_left (C shape) (R shape))

-- The seal is accepted, on tables that are long enough, and they are as they were; or what it leaves and answers is the step of a seal.
abbrev pub Accepts : {S : Type 0} → Operations S → Shape → ℕ → Tables S → Result (Unit {0}) (Refused Loading) → Tables S → Type 0
Accepts K shape n t (Ok _) t' = (seal K shape n t ≡ peels_on (peel_seal K (incidence shape) (world_of blank t)) done) × LongEnough shape t × (t' ≡ t)
Accepts K shape n t (Err e) t' = refuse (loading e.back) t' (refusal_of e.fault) ≡ seal K shape n t
