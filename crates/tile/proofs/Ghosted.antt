-- What a refused seal leaves, and why it is refused.
use Rattle.std.proofs.Common.{◌≡◌, ℕ, zero, suc, ◌≤◌, Bool, true, false, cond, not, ltb, length, Err, sym, refl, ap, ◌∙◌, arith}
use Rattle.std.proofs.lemmas.Bool.{true≢false, not-false, le-ltb, ltb-false}
use Rattle.samples.specs.declared.kind.Kind.{Ghosts as Operations}
use Rattle.mojette.specs.declared.fault.Fault.{Fault}
use Rattle.mojette.specs.declared.fault.Fault.TheVariants.{Size, PlaceCount, Unlawful, Disorder, ShortTable, AllLoaded, OtherSource, NotLoaded, Ghost, NoneWaits, BadCell, BadGrant, PixelsMissing, GrantsOut, LeftOver, NoPlace, Lost, NoBin, RunLength, NoFile, ShortOutput, Oversize}
use Rattle.mojette.specs.Faults.{refusal_of}
use Rattle.mojette.specs.Meaning.{Shape}
use Rattle.mojette.specs.Refusals.{Refusal, refusal}
use Rattle.peeling.specs.Steps.{World}
use Rattle.law.specs.Life.{LongEnough}
use Rattle.law.specs.Steps.{Tables, loading, refused, done, refuse, peels_on, checked, with_ghost, short, criterion, seal}
use Rattle.law.proofs.Sealing.{none_short}
use Rattle.tile.specs.declared.states.Loading.{Loading}
use Rattle.tile.specs.declared.states.Refused.{Refused}
use Rattle.tile.specs.Outcomes.{seal_outcome, IsGhost}

same_refusal : {r s : Refusal} → refused r ≡ refused s → r ≡ s
same_refusal {r} {s} e = cc

never_done : {r : Refusal} → refused r ≡ done → ⊥
never_done {r} e = cc

same_loaded : {n m : ℕ} → loading n ≡ loading m → n ≡ m
same_loaded {n} {m} e = cc

-- A ghost's refusal is number 9, and no other is.
ghost_number : (f : Fault) → (IsGhost f → (refusal_of f).number ≡ 9) × ((refusal_of f).number ≡ 9 → IsGhost f)
ghost_number (Ghost c r) = (λ g. refl, λ e. tt)
ghost_number Size = (λ g. absurd g, λ e. absurd (omega (arith, e)))
ghost_number PlaceCount = (λ g. absurd g, λ e. absurd (omega (arith, e)))
ghost_number (Unlawful i) = (λ g. absurd g, λ e. absurd (omega (arith, e)))
ghost_number (Disorder i) = (λ g. absurd g, λ e. absurd (omega (arith, e)))
ghost_number (ShortTable t) = (λ g. absurd g, λ e. absurd (omega (arith, e)))
ghost_number AllLoaded = (λ g. absurd g, λ e. absurd (omega (arith, e)))
ghost_number OtherSource = (λ g. absurd g, λ e. absurd (omega (arith, e)))
ghost_number (NotLoaded n) = (λ g. absurd g, λ e. absurd (omega (arith, e)))
ghost_number NoneWaits = (λ g. absurd g, λ e. absurd (omega (arith, e)))
ghost_number (BadCell i) = (λ g. absurd g, λ e. absurd (omega (arith, e)))
ghost_number BadGrant = (λ g. absurd g, λ e. absurd (omega (arith, e)))
ghost_number (PixelsMissing n) = (λ g. absurd g, λ e. absurd (omega (arith, e)))
ghost_number (GrantsOut n) = (λ g. absurd g, λ e. absurd (omega (arith, e)))
ghost_number (LeftOver i b) = (λ g. absurd g, λ e. absurd (omega (arith, e)))
ghost_number NoPlace = (λ g. absurd g, λ e. absurd (omega (arith, e)))
ghost_number (Lost c) = (λ g. absurd g, λ e. absurd (omega (arith, e)))
ghost_number NoBin = (λ g. absurd g, λ e. absurd (omega (arith, e)))
ghost_number (RunLength n) = (λ g. absurd g, λ e. absurd (omega (arith, e)))
ghost_number (NoFile f) = (λ g. absurd g, λ e. absurd (omega (arith, e)))
ghost_number (ShortOutput n) = (λ g. absurd g, λ e. absurd (omega (arith, e)))
ghost_number Oversize = (λ g. absurd g, λ e. absurd (omega (arith, e)))

module _ {S : Type 0} (K : Operations S) (shape : Shape) (x : Loading) (t : Tables S) where
  -- what a seal asks
  abbrev Serves : Type 0
  Serves = LongEnough shape t × (length shape.records ≤ x) × (criterion shape ≡ true)

  passes : (k : ℕ) (more fails : Bool) (a c r : ℕ) (w w' : World S) →
      checked k (loading x) t (cond more (refuse (loading x) t (refusal 8 a 0 0))
      (cond fails (refuse (loading x) (with_ghost K shape t) (refusal 9 c r 0)) (peels_on w done))) ≡ peels_on w' done → (more ≡ false) × (fails ≡ false)
  passes (suc k) more fails a c r w w' is = absurd (never_done (ap (λ o. o.answer) is))
  passes zero true fails a c r w w' is = absurd (never_done (ap (λ o. o.answer) is))
  passes zero false true a c r w w' is = absurd (never_done (ap (λ o. o.answer) is))
  passes zero false false a c r w w' is = (refl, refl)

  -- a seal that is served
  pub seal_served : (w : World S) → LongEnough shape t → seal K shape x t ≡ peels_on w done → Serves
  unfolding seal
  seal_served w long is =
      let p = passes (short shape t) (ltb x (length shape.records)) (not (criterion shape)) _ _ _ _ w is in
      (long, ltb-false x (length shape.records) p.0, not-false (criterion shape) p.1)

  module _ (t' : Tables S) (e : Refused Loading) where
    pub record SealRefused : Type 0 where
      pub back : e.back ≡ x
      pub unchanged : ¬ (IsGhost e.fault) → t' ≡ t
      pub ghost : IsGhost e.fault → t' ≡ with_ghost K shape t
      pub unserved : ¬ Serves

    -- a refusal that is not for a ghost
    plain : (n a : ℕ) → ¬ (n ≡ 9) → ¬ Serves → seal_outcome (Err e) t' ≡ refuse (loading x) t (refusal n a 0 0) → SealRefused
    plain n a other not_served is =
        let told : refusal_of e.fault ≡ refusal n a 0 0 = same_refusal (ap (λ o. o.answer) is) in record {
          back = same_loaded (ap (λ o. o.stage) is);
          unchanged = λ _. ap (λ o. o.tables) is;
          ghost = λ g. absurd (other (sym (ap (λ r. r.number) told) ∙ (ghost_number e.fault).0 g));
          unserved = not_served;
        }

    ghosts : (c r : ℕ) → ¬ Serves → seal_outcome (Err e) t' ≡ refuse (loading x) (with_ghost K shape t) (refusal 9 c r 0) → SealRefused
    ghosts c r not_served is =
        let told : refusal_of e.fault ≡ refusal 9 c r 0 = same_refusal (ap (λ o. o.answer) is) in record {
          back = same_loaded (ap (λ o. o.stage) is);
          unchanged = λ other. absurd (other ((ghost_number e.fault).1 (ap (λ r. r.number) told)));
          ghost = λ _. ap (λ o. o.tables) is;
          unserved = not_served;
        }

    -- by the tests: a table is too short, places are not loaded, the criterion fails
    by : (k : ℕ) (more fails : Bool) (a c r : ℕ) (w : World S) →
        (LongEnough shape t → k ≡ 0) → (length shape.records ≤ x → more ≡ false) → (criterion shape ≡ true → fails ≡ false) →
        seal_outcome (Err e) t' ≡ checked k (loading x) t (cond more (refuse (loading x) t (refusal 8 a 0 0))
        (cond fails (refuse (loading x) (with_ghost K shape t) (refusal 9 c r 0)) (peels_on w done))) → SealRefused
    by (suc k) more fails a c r w long all holds is = plain 5 (suc k) (λ h. omega (arith, h)) (λ can. omega (arith, long can.0)) is
    by zero true fails a c r w long all holds is = plain 8 a (λ h. omega (arith, h)) (λ can. true≢false (all can.1)) is
    by zero false true a c r w long all holds is = ghosts c r (λ can. true≢false (holds can.2)) is
    by zero false false a c r w long all holds is = absurd (never_done (ap (λ o. o.answer) is))

    pub seal_refused : seal_outcome (Err e) t' ≡ seal K shape x t → SealRefused
    unfolding seal
    seal_refused is =
        by (short shape t) (ltb x (length shape.records)) (not (criterion shape)) _ _ _ _
        (none_short shape t) (le-ltb x (length shape.records)) (λ h. ap not h) is
