-- What a seal does, by the places loaded and Katz's criterion.
use Rattle.std.proofs.Common.{◌≡◌, ℕ, ◌-◌, ◌<◌, ◌≤◌, true, false, ltb, length, sym, subst}
use Rattle.std.proofs.lemmas.Bool.{le-ltb, lt-ltb}
use Rattle.samples.specs.declared.kind.Kind.{Ghosts as Operations}
use Rattle.mojette.specs.Meaning.{Shape, Meaning, shape_of}
use Rattle.mojette.specs.Refusals.{refusal}
use Rattle.katz.specs.Sets.{Criterion}
use Rattle.katz.proofs.Tested.{tested, not_enough}
use Rattle.peeling.specs.Steps.{seal as peel_seal}
use Rattle.law.specs.Positions.{incidence}
use Rattle.law.specs.Steps.{loading, Tables, done, refuse, peels_on, world_of, blank, short, criterion, C, R, with_ghost, seal}
use Rattle.law.specs.Life.{LongEnough}
use Rattle.law.proofs.Vanishing.{ds}
use Rattle.law.proofs.Loading.{records_number}

pub none_short : {S : Type 0} (shape : Shape) (t : Tables S) → LongEnough shape t → short shape t ≡ 0
unfolding short
none_short shape t long =
    let e₁ = le-ltb _ _ long.picture in
    let e₂ = le-ltb _ _ long.marks in
    let e₃ = le-ltb _ _ long.sums in
    let e₄ = le-ltb _ _ long.counts in
    let e₅ = le-ltb _ _ long.queue in
    rw (e₁, e₂, e₃, e₄, e₅)

module _ {S : Type 0} (K : Operations S) (m : Meaning S) where
  -- the criterion as it is tested
  pub criterion_holds : criterion (shape_of m) ≡ true → Criterion m.P m.Q (ds m)
  criterion_holds e = (tested m.P m.Q (ds m)).0 e

  pub criterion_fails : criterion (shape_of m) ≡ false → ¬ (Criterion m.P m.Q (ds m))
  criterion_fails e = not_enough m.P m.Q (ds m) e

  module _ (n : ℕ) (t : Tables S) (long : LongEnough (shape_of m) t) where
    pub seal_early : n < length m.places → seal K (shape_of m) n t ≡ refuse (loading n) t (refusal 8 (length (shape_of m).records - n) 0 0)
    unfolding seal
    seal_early l =
        let e : ltb n (length (shape_of m).records) ≡ true = lt-ltb _ _ (subst (λ k. n < k) (sym (records_number K m)) l) in
        rw (none_short (shape_of m) t long, e)

    module _ (all : length m.places ≤ n) where
      late : ltb n (length (shape_of m).records) ≡ false
      late = le-ltb _ _ (subst (λ k. k ≤ n) (sym (records_number K m)) all)

      pub seal_ghost : criterion (shape_of m) ≡ false → seal K (shape_of m) n t ≡ refuse (loading n) (with_ghost K (shape_of m) t) (refusal 9 (C (shape_of m)) (R (shape_of m)) 0)
      unfolding seal
      seal_ghost fails = rw (none_short (shape_of m) t long, late, fails)

      pub seal_accepted : criterion (shape_of m) ≡ true → seal K (shape_of m) n t ≡ peels_on (peel_seal K (incidence (shape_of m)) (world_of blank t)) done
      unfolding seal
      seal_accepted holds = rw (none_short (shape_of m) t long, late, holds)
