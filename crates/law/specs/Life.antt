-- The life of a tile: the calls on it since the open that gave it, and what each left and answered.
use Rattle.std.specs.Prelude.{◌≡◌, ℕ, ◌+◌, ◌<◌, ◌≤◌, Bool, true, false, cond, List, [], ◌∷◌, length}
use Rattle.samples.specs.declared.kind.Kind.{Ghosts as Operations}
use Rattle.peeling.specs.declared.state.State.{State}
use Rattle.peeling.specs.History.{took, settled, gave_back, out}
use Rattle.peeling.specs.History.{Call as PeelCall, refused as no_change, History as PeelHistory}
use Rattle.mojette.specs.Meaning.{Shape, Meaning, Lawful, shape_of, pixels_of, bins_of}
use Rattle.mojette.specs.Refusals.{Refusal}
use Rattle.law.specs.Steps.{Stage, loading, peeling, Tables, Answer, done, granted, refused, Outcome, load, seal, take, settle, give_back, finish}
use Rattle.law.specs.Steps.{settled as settled_with}

-- Calls and histories -------------------------------------------------------------------------------------------

pub data Call : Type 0 where
  opens loads seals takes finishes : Call
  settles gives_back : ℕ → Call

pub record Event : Type 0 where
  pub call : Call
  pub answer : Answer

-- the calls since birth with their answers, the newest first
abbrev pub History : Type 0
History = List Event

abbrev pub event : Call → Answer → Event
event c a = record { call = c; answer = a }

-- a call is served
abbrev pub is_served : Answer → Bool
is_served done = true
is_served (granted b) = true
is_served (settled_with c n) = true
is_served (refused r) = false

-- how many places are loaded
abbrev pub loads_in : Call → Answer → ℕ
loads_in opens a = 0
loads_in loads a = cond (is_served a) 1 0
loads_in seals a = 0
loads_in takes a = 0
loads_in finishes a = 0
loads_in (settles b) a = 0
loads_in (gives_back b) a = 0

unfoldable pub loaded_places : History → ℕ
loaded_places [] = 0
loaded_places (e ∷ h) = loaded_places h + loads_in e.call e.answer

-- what a take changes of the bins that wait and the grants out
abbrev pub granted_by : Answer → PeelCall
granted_by done = no_change
granted_by (granted b) = took b
granted_by (settled_with c n) = no_change
granted_by (refused r) = no_change

-- the calls since the accepted seal
abbrev pub after : Call → Answer → PeelHistory → PeelHistory
after opens a h = no_change ∷ h
after loads a h = no_change ∷ h
after seals a h = cond (is_served a) [] (no_change ∷ h)
after takes a h = granted_by a ∷ h
after finishes a h = no_change ∷ h
after (settles b) a h = cond (is_served a) (settled b) no_change ∷ h
after (gives_back b) a h = cond (is_served a) (gave_back b) no_change ∷ h

unfoldable pub since_seal : History → PeelHistory
since_seal [] = []
since_seal (e ∷ h) = after e.call e.answer (since_seal h)

-- The life of a tile --------------------------------------------------------------------------------------------

-- No table is too short.
pub record LongEnough {S : Type 0} (shape : Shape) (t : Tables S) : Type 0 where
  pub picture : pixels_of shape ≤ length t.picture
  pub marks : pixels_of shape ≤ length t.marks
  pub sums : bins_of shape ≤ length t.sums
  pub counts : bins_of shape ≤ length t.counts
  pub queue : bins_of shape ≤ length t.queue

-- Does c stage t o: call c, which this stage allows, with this plan, source and tables, leaves and answers o.
pub data Does {S : Type 0} (K : Operations S) (shape : Shape) (m : Meaning S) : Call → Stage → Tables S → Outcome S → Type 0 where
  load_does : {n : ℕ} {t : Tables S} → Does K shape m loads (loading n) t (load K shape m n t)
  seal_does : {n : ℕ} {t : Tables S} → Does K shape m seals (loading n) t (seal K shape n t)
  take_does : {s : State} {t : Tables S} → Does K shape m takes (peeling s) t (take K shape s t)
  settle_does : {b : ℕ} {s : State} {t : Tables S} → Does K shape m (settles b) (peeling s) t (settle K shape b s t)
  give_back_does : {b : ℕ} {s : State} {t : Tables S} → Does K shape m (gives_back b) (peeling s) t (give_back K shape b s t)
  finish_does : {s : State} {t : Tables S} → Does K shape m finishes (peeling s) t (finish K shape s t)

-- The grant that a call is passed, if any, is out.
abbrev pub HasGrant : History → Call → Type 0
HasGrant h opens = Unit {0}
HasGrant h loads = Unit {0}
HasGrant h seals = Unit {0}
HasGrant h takes = Unit {0}
HasGrant h finishes = Unit {0}
HasGrant h (settles b) = 0 < out (since_seal h) b
HasGrant h (gives_back b) = 0 < out (since_seal h) b

-- other cells in the picture
abbrev pub with_picture : {S : Type 0} → List S → Tables S → Tables S
with_picture picture t = record { picture = picture; marks = t.marks; sums = t.sums; counts = t.counts; queue = t.queue }

-- Life h stage t: a tile born of a source that means m has met the calls h, and nothing else, and is now in this stage
-- with these tables. Its birth is a served open, whatever the tables held. Each call has the tile's own plan, source,
-- tables and grants, and does its step. A call that was passed anything else, and was refused, changes nothing of the tile;
-- but a seal that was passed the tile's picture, and was refused, leaves there what it wrote: nothing, or the ghost of the
-- plan that it was passed.
pub data Life {S : Type 0} (K : Operations S) (m : Meaning S) : History → Stage → Tables S → Type 0 where
  born : {t : Tables S} → Lawful (shape_of m) → LongEnough (shape_of m) t → Life K m (event opens done ∷ []) (loading 0) t
  then : {h : History} {stage : Stage} {t : Tables S} {c : Call} {o : Outcome S} → Life K m h stage t →
      Does K (shape_of m) m c stage t o → HasGrant h c → Life K m (event c o.answer ∷ h) o.stage o.tables
  then_refused : {h : History} {stage : Stage} {t : Tables S} {c : Call} {o : Outcome S} {r : Refusal} (shape : Shape) (m' : Meaning S) (t' : Tables S) →
      Life K m h stage t → Does K shape m' c stage t' o → o.answer ≡ refused r → Life K m (event c (refused r) ∷ h) stage t
  then_ghosted : {h : History} {n : ℕ} {t : Tables S} {r : Refusal} (shape : Shape) (t' : Tables S) → Life K m h (loading n) t → t'.picture ≡ t.picture →
      (seal K shape n t').answer ≡ refused r → Life K m (event seals (refused r) ∷ h) (loading n) (with_picture (seal K shape n t').tables.picture t)
