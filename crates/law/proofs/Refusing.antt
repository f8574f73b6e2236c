-- What a refused call leaves.
use Rattle.std.proofs.Common.{◌≡◌, ℕ, zero, suc, Bool, true, false, cond, not, ltb, leb, ◌⊎◌, length, Option, refl, inl, inr, arith}
use Rattle.samples.specs.declared.kind.Kind.{Ghosts as Operations}
use Rattle.mojette.specs.Meaning.{Shape, Meaning, bins_of}
use Rattle.mojette.specs.Refusals.{Refusal, refusal}
use Rattle.peeling.specs.declared.state.State.{State}
use Rattle.peeling.specs.Steps.{Taken, none_waits, bad_cell, grants, take_answers, Finished, pixels_missing, grants_out, left_over, finish_answers}
use Rattle.peeling.specs.Steps.{served as all_zero}
use Rattle.law.specs.Steps.{Stage, loading, peeling, Tables, done, granted, settled, refused, Outcome, served, refuse, short, short_sums, short_queue, checked, fits, C, R, criterion, with_ghost, load, seal, take_outcome, take, settle, give_back, finish_outcome, finish}
use Rattle.law.specs.Life.{Call, loads, seals, takes, settles, gives_back, finishes, Does, load_does, seal_does, take_does, settle_does, give_back_does, finish_does}
use Rattle.law.specs.Law.{RefusalsKeep}

module _ {S : Type 0} (K : Operations S) (shape : Shape) where
  -- where the outcome is a refusal, it leaves all as it was, but for a ghost
  record Left (c : Call) (stage : Stage) (t : Tables S) (o : Outcome S) : Type 0 where
    by : (r : Refusal) → o.answer ≡ refused r →
        (o.stage ≡ stage) × ((o.tables ≡ t) ⊎ ((c ≡ seals) × (r ≡ refusal 9 (C shape) (R shape) 0) × (o.tables ≡ with_ghost K shape t)))

  same : {c : Call} {stage : Stage} {t : Tables S} {r : Refusal} → Left c stage t (refuse stage t r)
  same = record { by = λ r e. (refl, inl refl) }

  ghost : {stage : Stage} {t : Tables S} → Left seals stage t (refuse stage (with_ghost K shape t) (refusal 9 (C shape) (R shape) 0))
  ghost = record { by = λ r e. (refl, inr (refl, cc, refl)) }

  -- a served call is not refused
  not_done : {c : Call} {stage after : Stage} {t u : Tables S} → Left c stage t (served after u done)
  not_done = record { by = λ r e. let z : ◌≡◌ {A = ℕ} 0 1 = cc in absurd (omega arith) }

  not_granted : {c : Call} {stage after : Stage} {t u : Tables S} {b : ℕ} → Left c stage t (served after u (granted b))
  not_granted = record { by = λ r e. let z : ◌≡◌ {A = ℕ} 0 1 = cc in absurd (omega arith) }

  not_settled : {c : Call} {stage after : Stage} {t u : Tables S} {cell : Option ℕ} {n : ℕ} → Left c stage t (served after u (settled cell n))
  not_settled = record { by = λ r e. let z : ◌≡◌ {A = ℕ} 0 1 = cc in absurd (omega arith) }

  -- checks
  either : {c : Call} {stage : Stage} {t : Tables S} (b : Bool) {x y : Outcome S} → Left c stage t x → Left c stage t y → Left c stage t (cond b x y)
  either true l r = l
  either false l r = r

  past : {c : Call} {stage : Stage} {t : Tables S} (k : ℕ) {o : Outcome S} → Left c stage t o → Left c stage t (checked k stage t o)
  past zero l = l
  past (suc k) l = same

  -- the calls
  by_load : (m : Meaning S) (n : ℕ) (t : Tables S) → Left loads (loading n) t (load K shape m n t)
  unfolding load
  by_load m n t = past (short_sums shape t) (either (leb (length shape.records) n) same (either (not (fits shape m n)) same not_done))

  by_seal : (n : ℕ) (t : Tables S) → Left seals (loading n) t (seal K shape n t)
  unfolding seal
  by_seal n t = past (short shape t) (either (ltb n (length shape.records)) same (either (not (criterion shape)) ghost not_done))

  by_taken : (s : State) (t : Tables S) (a : Taken) → Left takes (peeling s) t (take_outcome K shape s t a)
  by_taken s t none_waits = same
  by_taken s t (bad_cell i) = same
  by_taken s t (grants b) = not_granted

  by_take : (s : State) (t : Tables S) → Left takes (peeling s) t (take K shape s t)
  unfolding take
  by_take s t = past (short_queue shape t) (by_taken s t (take_answers (bins_of shape) s t.queue))

  by_settle : (b : ℕ) (s : State) (t : Tables S) → Left (settles b) (peeling s) t (settle K shape b s t)
  unfolding settle
  by_settle b s t = past (short shape t) (either (leb (bins_of shape) b) same not_settled)

  by_give_back : (b : ℕ) (s : State) (t : Tables S) → Left (gives_back b) (peeling s) t (give_back K shape b s t)
  unfolding give_back
  by_give_back b s t = past (short_queue shape t) (either (leb (bins_of shape) b) same not_done)

  by_finished : (s : State) (t : Tables S) (a : Finished) → Left finishes (peeling s) t (finish_outcome K shape s t a)
  by_finished s t (pixels_missing n) = same
  by_finished s t (grants_out n) = same
  by_finished s t (left_over x) = same
  by_finished s t all_zero = not_done

  by_finish : (s : State) (t : Tables S) → Left finishes (peeling s) t (finish K shape s t)
  unfolding finish
  by_finish s t = past (short_sums shape t) (by_finished s t (finish_answers K (bins_of shape) s t.sums))

  by_call : (m : Meaning S) {c : Call} {stage : Stage} {t : Tables S} {o : Outcome S} → Does K shape m c stage t o → Left c stage t o
  by_call m (load_does {n} {t}) = by_load m n t
  by_call m (seal_does {n} {t}) = by_seal n t
  by_call m (take_does {s} {t}) = by_take s t
  by_call m (settle_does {b} {s} {t}) = by_settle b s t
  by_call m (give_back_does {b} {s} {t}) = by_give_back b s t
  by_call m (finish_does {s} {t}) = by_finish s t

pub refusals_keep : {S : Type 0} (K : Operations S) → RefusalsKeep K
refusals_keep K shape m c stage t o does = (by_call K shape m does).by
