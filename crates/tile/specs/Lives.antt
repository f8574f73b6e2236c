-- The law speaks of what the calls leave: from a tile's life before a call to its life after it.
use Rattle.std.specs.Prelude.{◌≡◌, ℕ, [], ◌∷◌, Ok, Err, Option, Result}
use Rattle.samples.specs.declared.kind.Kind.{Ghosts as Operations}
use Rattle.mojette.specs.Faults.{refusal_of}
use Rattle.mojette.specs.Meaning.{Shape, Meaning, shape_of}
use Rattle.mojette.specs.Refusals.{Refusal}
use Rattle.plan.specs.declared.plan.Plan.{Plan}
use Rattle.law.specs.Steps.{Stage, loading, peeling, Tables, done, refused, Outcome, load, seal, take, settle, give_back, finish}
use Rattle.law.specs.Life.{Call, History, event, LongEnough, HasGrant, with_picture, Life}
use Rattle.law.specs.Life as calls
use Rattle.tile.specs.declared.states.Finished.{Finished}
use Rattle.tile.specs.declared.states.Grant.{Grant}
use Rattle.tile.specs.declared.states.Loading.{Loading}
use Rattle.tile.specs.declared.states.Peeling.{Peeling}
use Rattle.tile.specs.declared.states.Refused.{Refused}
use Rattle.tile.specs.Calls.{Opens}
use Rattle.tile.specs.Outcomes.{load_outcome, seal_outcome, take_outcome, settle_outcome, give_back_outcome, finish_outcome}

-- A call on a tile in this stage, passed these tables, left and answered o.
pub record Lives {S : Type 0} (K : Operations S) (Own : Meaning S → Type 0) (c : Call) (stage : Stage) (t : Tables S) (o : Outcome S) : Type 0 where
  -- Where all that it was passed is the tile's own, the tile's life goes on with this call, in what it left.
  pub own : (m : Meaning S) (h : History) → Own m → Life K m h stage t → HasGrant h c → Life K m (event c o.answer ∷ h) o.stage o.tables
  -- Whatever it was passed, if it was refused and the tile's tables are as they were, the life goes on with this call, and with them.
  pub other : (m : Meaning S) (h : History) (t' : Tables S) (r : Refusal) → o.answer ≡ refused r → Life K m h stage t' → Life K m (event c (refused r) ∷ h) o.stage t'

-- What the contract of each call says of it makes it a call of the tile's life.
pub record CallsLive {S : Type 0} (K : Operations S) : Type 0 where
  pub opens : (m : Meaning S) (plan plan' : Plan) (x : Loading) → Opens m plan (Ok x) plan' →
      (t : Tables S) → LongEnough (shape_of m) t → Life K m (event calls.opens done ∷ []) (loading x) t
  pub loads : (shape : Shape) (s : Meaning S) (x : Loading) (t t' : Tables S) (r : Result Loading (Refused Loading)) →
      load_outcome r t' ≡ load K shape s x t →
      Lives K (λ m. (shape ≡ shape_of m) × (s ≡ m)) calls.loads (loading x) t (load_outcome r t')
  pub seals : (shape : Shape) (x : Loading) (t t' : Tables S) (r : Result Peeling (Refused Loading)) →
      seal_outcome r t' ≡ seal K shape x t →
      Lives K (λ m. shape ≡ shape_of m) calls.seals (loading x) t (seal_outcome r t')
  pub takes : (shape : Shape) (x : Peeling) (t : Tables S) (r : Result (Peeling × Grant) (Refused Peeling)) →
      take_outcome r t ≡ take K shape x t →
      Lives K (λ m. shape ≡ shape_of m) calls.takes (peeling x) t (take_outcome r t)
  pub settles : (shape : Shape) (x : Peeling) (grant : Grant) (t t' : Tables S) (r : Result (Peeling × (Option ℕ × ℕ)) (Refused (Peeling × Grant))) →
      settle_outcome r t' ≡ settle K shape grant x t →
      Lives K (λ m. shape ≡ shape_of m) (calls.settles grant) (peeling x) t (settle_outcome r t')
  pub gives_back : (shape : Shape) (x : Peeling) (grant : Grant) (t t' : Tables S) (r : Result Peeling (Refused (Peeling × Grant))) →
      give_back_outcome r t' ≡ give_back K shape grant x t →
      Lives K (λ m. shape ≡ shape_of m) (calls.gives_back grant) (peeling x) t (give_back_outcome r t')
  pub finishes : (shape : Shape) (x : Peeling) (t : Tables S) (r : Result Finished (Refused Peeling)) →
      finish_outcome r t ≡ finish K shape x t →
      Lives K (λ m. shape ≡ shape_of m) calls.finishes (peeling x) t (finish_outcome r t)
  -- A refused seal that was passed the tile's own tables, with whatever plan: the life goes on in what it left.
  pub seals_refused : (shape : Shape) (x : Loading) (t t' : Tables S) (e : Refused Loading) → seal_outcome (Err e) t' ≡ seal K shape x t →
      (m : Meaning S) (h : History) → Life K m h (loading x) t →
      Life K m (event calls.seals (refused (refusal_of e.fault)) ∷ h) (loading e.back) t'
  -- The same where only the picture was the tile's own: what was left in the picture is in the tile's.
  pub picture_ghosted : (shape : Shape) (x : Loading) (t t' : Tables S) (e : Refused Loading) → seal_outcome (Err e) t' ≡ seal K shape x t →
      (m : Meaning S) (h : History) (own : Tables S) → t.picture ≡ own.picture → Life K m h (loading x) own →
      Life K m (event calls.seals (refused (refusal_of e.fault)) ∷ h) (loading e.back) (with_picture t'.picture own)
