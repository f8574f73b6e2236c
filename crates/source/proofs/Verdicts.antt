-- What a shape without a refusal has.
use Rattle.std.proofs.Common.{◌≡◌, ℕ, ◌<◌, true, false, ◌&&◌, ◌⊎◌, length, Some, None, sym, ap, ◌∙◌, subst, inl, inr, arith}
use Rattle.std.proofs.lemmas.List.{get_or-map, length-map}
use Rattle.std.proofs.lemmas.Bool.{cases_Bool, cond-true, cond-false, and_parts}
use Rattle.mojette.specs.Directions.{lawful}
use Rattle.mojette.specs.Meaning.{Meaning, Shape, shape_of, side_ok, number_ok, places_verdict, verdict}
use Rattle.mojette.specs.Refusals.{refusal}
use Rattle.plan.proofs.Layouts.{lawful_at}
use Rattle.plan.proofs.Verdicts.{no_record}
use Rattle.source.specs.Questions.{no_place, place_at}

module _ (s : Shape) (none : verdict s ≡ None) where
  never : (n : ℕ) → verdict s ≡ Some (refusal n 0 0 0) → ⊥
  never n e = let f : None ≡ Some (refusal n 0 0 0) = sym none ∙ e in let z : ◌≡◌ {A = ℕ} 0 1 = cc in omega arith

  sides_ok : (side_ok s.P && side_ok s.Q) ≡ true
  unfolding verdict
  sides_ok = go (cases_Bool (side_ok s.P && side_ok s.Q))
    where
      go : ((side_ok s.P && side_ok s.Q) ≡ true) ⊎ ((side_ok s.P && side_ok s.Q) ≡ false) → (side_ok s.P && side_ok s.Q) ≡ true
      go (inl t) = t
      go (inr f) = absurd (never 1 (cond-false _ _ _ f))

  pub columns_ok : side_ok s.P ≡ true
  columns_ok = (and_parts _ _ sides_ok).0

  pub rows_ok : side_ok s.Q ≡ true
  rows_ok = (and_parts _ _ sides_ok).1

  places_ok : places_verdict 0 None s.records ≡ None
  unfolding verdict
  places_ok = go (cases_Bool (number_ok (length s.records)))
    where
      go : (number_ok (length s.records) ≡ true) ⊎ (number_ok (length s.records) ≡ false) → places_verdict 0 None s.records ≡ None
      go (inl t) = sym (cond-true _ _ _ sides_ok ∙ cond-true _ _ _ t) ∙ none
      go (inr f) = absurd (never 2 (cond-true _ _ _ sides_ok ∙ cond-false _ _ _ f))

-- the direction of a place
pub direction_ok : {S : Type 0} (m : Meaning S) (i : ℕ) → verdict (shape_of m) ≡ None → i < length m.places → lawful (place_at m i).entry.direction ≡ true
direction_ok m i none h =
    let es = (shape_of m).records in
    ap (λ e. lawful e.direction) (sym (get_or-map (λ x. x.entry) m.places i no_place no_record h))
    ∙ lawful_at 0 None es (places_ok (shape_of m) none) i (subst (λ n. i < n) (sym (length-map m.places (λ x. x.entry))) h)
