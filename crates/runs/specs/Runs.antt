-- Runs of calls, each from a life of the tile to a later one.
use Rattle.std.specs.Prelude.{◌≡◌, length, Ok, Err, Result}
use Rattle.samples.specs.declared.kind.Kind.{Ghosts as Operations}
use Rattle.mojette.specs.Meaning.{Meaning, shape_of}
use Rattle.plan.specs.declared.plan.Plan.{Plan}
use Rattle.plan.specs.Shapes.{shape}
use Rattle.law.specs.Life.{History, Life, loaded_places}
use Rattle.law.specs.Steps.{Stage, loading, Tables}
use Rattle.law.specs.Turns.{loaded}
use Rattle.tile.specs.declared.states.Loading.{Loading}
use Rattle.tile.specs.declared.states.Refused.{Refused}

module _ {S : Type 0} (K : Operations S) (m : Meaning S) where
  -- some life of a tile of the source comes to this stage and these tables
  abbrev pub Lived : Stage → Tables S → Type 0
  Lived stage t = (h : History) × Life K m h stage t

  -- Every place is loaded, on tables that were `before`.
  abbrev pub AllLoaded : Tables S → Result Loading (Refused Loading) → Tables S → Type 0
  AllLoaded before (Ok x) t = (h : History) × Life K m h (loading x) t × (loaded_places h ≡ length m.places) × (t ≡ loaded K m (length m.places) before)
  AllLoaded before (Err e) t = ⊥

  abbrev pub LoadsAll : Plan → Loading → Tables S → Result Loading (Refused Loading) → Tables S → Type 0
  LoadsAll plan x t r t' = shape plan ≡ shape_of m → (h : History) → Life K m h (loading x) t → loaded_places h ≡ 0 → AllLoaded t r t'
