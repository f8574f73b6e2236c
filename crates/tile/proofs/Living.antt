-- From a life before a call to the life after it.
use Rattle.std.proofs.Common.{◌≡◌, ◌⊎◌, [], ◌∷◌, Ok, Err, sym, refl, ap, ◌∙◌, subst, subst₂, ⊎_elim}
use Rattle.samples.specs.declared.kind.Kind.{Ghosts as Operations}
use Rattle.mojette.specs.Faults.{refusal_of}
use Rattle.mojette.specs.Meaning.{Shape, Meaning, shape_of}
use Rattle.mojette.specs.Refusals.{refusal}
use Rattle.plan.specs.declared.plan.Plan.{Plan}
use Rattle.law.specs.Steps.{Stage, Tables, done, refused, Outcome, peeling, loading, C, R, with_ghost, seal}
use Rattle.law.specs.Life.{Call, History, event, LongEnough, with_picture, Does, load_does, seal_does, take_does, settle_does, give_back_does, finish_does, Life, born, then, then_refused, then_ghosted}
use Rattle.law.specs.Life as calls
use Rattle.law.proofs.Refusing.{refusals_keep}
use Rattle.tile.specs.declared.states.Loading.{Loading}
use Rattle.tile.specs.declared.states.Refused.{Refused}
use Rattle.tile.specs.Calls.{Opens}
use Rattle.tile.specs.Lives.{Lives, CallsLive}
use Rattle.tile.specs.Outcomes.{seal_outcome}

module _ {S : Type 0} (K : Operations S) where
  goes_on : {c : Call} {stage : Stage} {t : Tables S} {o : Outcome S} (Own : Meaning S → Type 0) (s : Shape) (m' : Meaning S) → Does K s m' c stage t o →
      ((m : Meaning S) → Own m → Does K (shape_of m) m c stage t o) → Lives K Own c stage t o
  goes_on {c} {stage} {t} {o} Own s m' does mine = record {
    own = λ m h own life grant. then life (mine m own) grant;
    other = λ m h t' r e life.
        subst (λ z. Life K m (event c (refused r) ∷ h) z t') (sym (refusals_keep K s m' c stage t o does r e).0) (then_refused s m' t life does e);
  }

  -- a call that is passed a source, which means m'
  with_source : {c : Call} {stage : Stage} {t : Tables S} {o : Outcome S} (s : Shape) (m' : Meaning S) → Does K s m' c stage t o →
      Lives K (λ m. (s ≡ shape_of m) × (m' ≡ m)) c stage t o
  with_source {c} {stage} {t} {o} s m' does =
      goes_on (λ m. (s ≡ shape_of m) × (m' ≡ m)) s m' does (λ m own. subst₂ (λ y z. Does K y z c stage t o) own.0 own.1 does)

  -- a call that is passed none
  lives : {c : Call} {stage : Stage} {t : Tables S} {o : Outcome S} (s : Shape) → ((m : Meaning S) → Does K s m c stage t o) →
      Lives K (λ m. s ≡ shape_of m) c stage t o
  lives {c} {stage} {t} {o} s does =
      goes_on (λ m. s ≡ shape_of m) s (record { P = 0; Q = 0; places = [] }) (does _) (λ m own. subst (λ z. Does K z m c stage t o) own (does m))

  -- a refused seal that was passed the tile's picture
  module _ (shape : Shape) (x : Loading) (t t' : Tables S) (e : Refused Loading) (does : seal_outcome (Err e) t' ≡ seal K shape x t) (m : Meaning S) (h : History) where
    answer : (seal K shape x t).answer ≡ refused (refusal_of e.fault)
    answer = ap (λ o. o.answer) (sym does)

    leaves : (loading e.back ≡ loading x) ×
        ((t' ≡ t) ⊎ ((calls.seals ≡ calls.seals) × (refusal_of e.fault ≡ refusal 9 (C shape) (R shape) 0) × (t' ≡ with_ghost K shape t)))
    leaves = refusals_keep K shape m calls.seals (loading x) t _
        (subst (Does K shape m calls.seals (loading x) t) (sym does) seal_does) (refusal_of e.fault) refl

    picture_ghosted : (own : Tables S) → t.picture ≡ own.picture → Life K m h (loading x) own →
        Life K m (event calls.seals (refused (refusal_of e.fault)) ∷ h) (loading e.back) (with_picture t'.picture own)
    picture_ghosted own same life =
        subst₂ (λ stage p. Life K m (event calls.seals (refused (refusal_of e.fault)) ∷ h) stage (with_picture p own))
        (sym leaves.0) (ap (λ o. o.tables.picture) (sym does)) (then_ghosted shape t life same answer)

    -- of the tables it changes the picture alone
    rest : with_picture t'.picture t ≡ t'
    rest = ⊎_elim
        (λ (none : t' ≡ t). ap (λ y. with_picture y.picture t) none ∙ sym none)
        (λ (ghost : (calls.seals ≡ calls.seals) × (refusal_of e.fault ≡ refusal 9 (C shape) (R shape) 0) × (t' ≡ with_ghost K shape t)).
        ap (λ y. with_picture y.picture t) ghost.2 ∙ sym ghost.2)
        leaves.1

    seals_refused : Life K m h (loading x) t → Life K m (event calls.seals (refused (refusal_of e.fault)) ∷ h) (loading e.back) t'
    seals_refused life = subst (Life K m (event calls.seals (refused (refusal_of e.fault)) ∷ h) (loading e.back)) rest (picture_ghosted t refl life)

  opened : (m : Meaning S) (plan plan' : Plan) (x : Loading) → Opens m plan (Ok x) plan' →
      (t : Tables S) → LongEnough (shape_of m) t → Life K m (event calls.opens done ∷ []) (loading x) t
  opened m plan plan' x e t long = subst (λ n. Life K m (event calls.opens done ∷ []) (loading n) t) (sym e.2) (born e.0 long)

  pub calls_live : CallsLive K
  calls_live = record {
    opens = opened;
    loads = λ shape s x t t' r e. with_source shape s (subst (Does K shape s calls.loads (loading x) t) (sym e) load_does);
    seals = λ shape x t t' r e. lives shape (λ m. subst (Does K shape m calls.seals (loading x) t) (sym e) seal_does);
    takes = λ shape x t r e. lives shape (λ m. subst (Does K shape m calls.takes (peeling x) t) (sym e) take_does);
    settles = λ shape x grant t t' r e. lives shape (λ m. subst (Does K shape m (calls.settles grant) (peeling x) t) (sym e) settle_does);
    gives_back = λ shape x grant t t' r e. lives shape (λ m. subst (Does K shape m (calls.gives_back grant) (peeling x) t) (sym e) give_back_does);
    finishes = λ shape x t r e. lives shape (λ m. subst (Does K shape m calls.finishes (peeling x) t) (sym e) finish_does);
    seals_refused = λ shape x t t' e does m h. seals_refused shape x t t' e does m h;
    picture_ghosted = λ shape x t t' e does m h. picture_ghosted shape x t t' e does m h;
  }
