-- What sealing and peeling in one call makes of a tile's life.
use Rattle.std.specs.Prelude.{◌≡◌, ℕ, ◌<◌, ◌∷◌, Ok, Err}
use Rattle.samples.specs.declared.kind.Kind.{Ghosts as Operations}
use Rattle.mojette.specs.Faults.{refusal_of}
use Rattle.mojette.specs.Meaning.{Meaning, shape_of}
use Rattle.plan.specs.declared.plan.Plan.{Plan}
use Rattle.plan.specs.Shapes.{shape}
use Rattle.law.specs.Law.{T, Waits, grants_of}
use Rattle.law.specs.Life.{History, Life, event, seals}
use Rattle.law.specs.Steps.{loading, peeling, Tables, refused}
use Rattle.law.specs.Turns.{seal_and_peel}
use Rattle.tile.specs.declared.states.Loading.{Loading}
use Rattle.tile.specs.declared.states.Peeling.{Peeling}
use Rattle.tile.specs.declared.states.Refused.{Refused}
use Rattle.tile.specs.Outcomes.{seal_outcome}

module _ {S : Type 0} (K : Operations S) (m : Meaning S) where
  -- A life of the tile that comes to this state and these tables, in which no bin waits and no grant is out.
  pub record Rests (x : Peeling) (t : Tables S) : Type 0 where
    pub history : History
    pub life : Life K m history (peeling x) t
    pub idle : (b : ℕ) → b < T K m → ¬ (Waits K m history b)
    pub none_out : (b : ℕ) → grants_of K m history b ≡ 0

-- On a tile's own plan and tables, whatever calls it has met: served, the tile's life goes on to one in which nothing waits and
-- nothing is out; refused, it goes on with a seal that was refused so.
pub record PeelsToRest {S : Type 0} (K : Operations S) : Type 0 where
  pub served : (m : Meaning S) (h : History) (plan : Plan) (x : Loading) (t : Tables S) (y : Peeling) (t' : Tables S) → shape plan ≡ shape_of m →
      Life K m h (loading x) t → seal_outcome (Ok y) t' ≡ seal_and_peel K (shape plan) x t → Rests K m y t'
  pub refuses : (m : Meaning S) (h : History) (plan : Plan) (x : Loading) (t : Tables S) (e : Refused Loading) (t' : Tables S) → shape plan ≡ shape_of m →
      Life K m h (loading x) t → seal_outcome (Err e) t' ≡ seal_and_peel K (shape plan) x t →
      Life K m (event seals (refused (refusal_of e.fault)) ∷ h) (loading e.back) t'
