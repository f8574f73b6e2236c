-- What a meaning answers, and what an answer tells of the meaning.
use Rattle.std.proofs.Common.{◌≡◌, ℕ, ◌<◌, ◌≤◌, true, false, cond, ltb, ◌⊎◌, length, get_or, ◌∙◌, inl, inr, arith}
use Rattle.std.proofs.lemmas.Bool.{cases_lt, cond-true, cond-false, lt-ltb, le-ltb}
use Rattle.samples.specs.declared.kind.Kind.{Ghosts as Operations}
use Rattle.mojette.specs.declared.direction.Record.{Record}
use Rattle.mojette.specs.Bins.{whole}
use Rattle.mojette.specs.Faults.{served, refuses}
use Rattle.mojette.specs.Meaning.{Meaning}
use Rattle.mojette.specs.Refusals.{Refusal, refusal}
use Rattle.source.specs.Questions.{place_at, bins_at, asked_place, asked_bin}

pub record Found {S : Type 0} (m : Meaning S) (i : ℕ) (e : Record) : Type 0 where
  pub inside : i < length m.places
  pub same : e ≡ (place_at m i).entry

pub record NoneThere {S : Type 0} (m : Meaning S) (i : ℕ) (r : Refusal) : Type 0 where
  pub beyond : length m.places ≤ i
  pub row : r ≡ refusal 16 0 0 0

module _ {S : Type 0} (m : Meaning S) (i : ℕ) where
  there : i < length m.places → asked_place m i ≡ served (place_at m i).entry
  there h = cond-true _ _ _ (lt-ltb i (length m.places) h)

  not_there : length m.places ≤ i → asked_place m i ≡ refuses (refusal 16 0 0 0)
  not_there h = cond-false _ _ _ (le-ltb i (length m.places) h)

  pub place_found : (e : Record) → served e ≡ asked_place m i → Found m i e
  place_found e a = go (cases_lt i (length m.places))
    where
      go : (i < length m.places) ⊎ (length m.places ≤ i) → Found m i e
      go (inl h) = let s : served e ≡ served (place_at m i).entry = a ∙ there h in record { inside = h; same = cc }
      go (inr h) = let s : served e ≡ refuses (refusal 16 0 0 0) = a ∙ not_there h in let z : ◌≡◌ {A = ℕ} 0 1 = cc in absurd (omega arith)

  pub place_missed : (r : Refusal) → refuses r ≡ asked_place m i → NoneThere m i r
  place_missed r a = go (cases_lt i (length m.places))
    where
      go : (i < length m.places) ⊎ (length m.places ≤ i) → NoneThere m i r
      go (inl h) = let s : refuses r ≡ served (place_at m i).entry = a ∙ there h in let z : ◌≡◌ {A = ℕ} 0 1 = cc in absurd (omega arith)
      go (inr h) = let s : refuses r ≡ refuses (refusal 16 0 0 0) = a ∙ not_there h in record { beyond = h; row = cc }

-- What the question about a bin is answered, by the first check that fails.
module _ {S : Type 0} (K : Operations S) (m : Meaning S) (i b : ℕ) where
  pub no_place_there : length m.places ≤ i → asked_bin K m i b ≡ refuses (refusal 16 0 0 0)
  no_place_there h = cond-false _ _ _ (le-ltb i (length m.places) h)

  module _ (inside : i < length m.places) where
    at_place :
        asked_bin K m i b
        ≡ cond (whole (place_at m i).entry) (cond (ltb b (bins_at m i)) (served (get_or (place_at m i).sums b K.zero)) (refuses (refusal 18 0 0 0))) (refuses (refusal 17 (place_at m i).entry.cause 0 0))
    at_place = cond-true _ _ _ (lt-ltb i (length m.places) inside)

    pub lost_there : whole (place_at m i).entry ≡ false → asked_bin K m i b ≡ refuses (refusal 17 (place_at m i).entry.cause 0 0)
    lost_there lost = at_place ∙ cond-false _ _ _ lost

    pub no_bin_there : whole (place_at m i).entry ≡ true → bins_at m i ≤ b → asked_bin K m i b ≡ refuses (refusal 18 0 0 0)
    no_bin_there here h = at_place ∙ cond-true _ _ _ here ∙ cond-false _ _ _ (le-ltb b (bins_at m i) h)

    pub bin_there : whole (place_at m i).entry ≡ true → b < bins_at m i → asked_bin K m i b ≡ served (get_or (place_at m i).sums b K.zero)
    bin_there here h = at_place ∙ cond-true _ _ _ here ∙ cond-true _ _ _ (lt-ltb b (bins_at m i) h)
