-- What rebuilding a tile answers, and what it leaves.
use Rattle.std.specs.Prelude.{◌≡◌, ℕ, suc, true, false, ◌↔◌, List, Some, Ok, Err, Result}
use Rattle.samples.specs.declared.kind.Kind.{Ghosts as Operations}
use Rattle.mojette.specs.declared.fault.Fault.{Fault}
use Rattle.mojette.specs.Faults.{refusal_of}
use Rattle.mojette.specs.Meaning.{Meaning, Agrees, Ghost, Lawful, shape_of, verdict, pixels_of}
use Rattle.mojette.specs.Refusals.{Refusal, short_table, ghost_left, leftover_sum}
use Rattle.peeling.specs.declared.state.State.{State}
use Rattle.plan.specs.declared.plan.Plan.{Plan}
use Rattle.plan.specs.Shapes.{shape}
use Rattle.law.specs.Law.{shown}
use Rattle.law.specs.Life.{LongEnough}
use Rattle.law.specs.Steps.{loading, peeling, finished, Tables, refused, short, criterion, C, R, finish}
use Rattle.tile.specs.declared.states.Finished.{Finished}
use Rattle.runs.specs.Runs.{Lived}

-- an answer: served with a picture of so many cells, or refused
pub data Answer : Type 0 where
  served : ℕ → Answer
  refuses : Refusal → Answer

abbrev pub answer : Result Finished Fault → Answer
answer (Ok x) = served x
answer (Err e) = refuses (refusal_of e)

module _ {S : Type 0} (K : Operations S) (m : Meaning S) where
  -- what makes a tile: a lawful source, and tables that are long enough
  pub record Ready (t : Tables S) : Type 0 where
    pub lawful : Lawful (shape_of m)
    pub long : LongEnough (shape_of m) t

  -- Rebuilding a tile on the tables `before` answers so and leaves the tables `after`, by the first thing that is wrong:
  -- the source; the tables, in their order; too few whole places, whose ghost is then shown; sums that no tile has. Else the
  -- picture is the one tile that agrees. What is left is reached by a life of the tile.
  pub data Rebuilds (before : Tables S) : Answer → Tables S → Type 0 where
    unlawful : {r : Refusal} → verdict (shape_of m) ≡ Some r → Rebuilds before (refuses r) before
    too_short : {k : ℕ} → Lawful (shape_of m) → short (shape_of m) before ≡ suc k → Rebuilds before (refuses (short_table (suc k))) before
    ghosted : {after : Tables S} {n : ℕ} → Ready before → criterion (shape_of m) ≡ false → Lived K m (loading n) after → Ghost K m (shown K m after) →
        Rebuilds before (refuses (ghost_left (C (shape_of m)) (R (shape_of m)))) after
    contradicted : {after : Tables S} {s : State} {i b : ℕ} → Ready before → criterion (shape_of m) ≡ true → Lived K m (peeling s) after →
        (finish K (shape_of m) s after).answer ≡ refused (leftover_sum i b) → ((tile : List S) → Agrees K m tile → ⊥) →
        Rebuilds before (refuses (leftover_sum i b)) after
    rebuilt : {after : Tables S} → Ready before → criterion (shape_of m) ≡ true → Lived K m finished after →
        Agrees K m (shown K m after) → ((tile : List S) → Agrees K m tile → tile ≡ shown K m after) →
        Rebuilds before (served (pixels_of (shape_of m))) after

  -- It is served exactly when the source is lawful, the tables are long enough, the criterion holds and some tile agrees.
  pub record CanBeRebuilt (before : Tables S) : Type 0 where
    pub ready : Ready before
    pub enough : criterion (shape_of m) ≡ true
    pub tile : List S
    pub agrees : Agrees K m tile

  abbrev pub Served : Answer → Type 0
  Served (served n) = Unit {0}
  Served (refuses r) = ⊥

  abbrev pub ServesExactly : Tables S → Answer → Type 0
  ServesExactly before a = Served a ↔ CanBeRebuilt before

  -- The plan becomes the source's where the source is lawful and no table is too short; else it is as it was.
  abbrev pub Fills : Tables S → Plan → Plan → Type 0
  Fills before plan plan' = (Ready before → shape plan' ≡ shape_of m) × (¬ (Ready before) → plan' ≡ plan)
