-- What a lawful verdict says of the directions of a shape.
use Rattle.std.proofs.Common.{◌≡◌, ℕ, zero, suc, ◌<◌, ◌≤◌, Bool, true, false, cond, ◌&&◌, List, [], ◌∷◌, map, length, is_some, Some, None, Option, refl, ap, ◌∙◌, arith}
use Rattle.std.specs.List.{All}
use Rattle.std.proofs.lemmas.List.Elements.{All-from_get_or}
use Rattle.std.proofs.lemmas.Bool.{true≢false, and_parts, and_from}
use Rattle.mojette.specs.declared.direction.Direction.{Direction}
use Rattle.mojette.specs.declared.direction.Record.{Record}
use Rattle.mojette.specs.Bounds.{most_bins}
use Rattle.mojette.specs.Directions.{lawful, all_lawful, in_order, LawfulDirections}
use Rattle.mojette.specs.Meaning.{Shape, side_ok, number_ok, follows, places_verdict, verdict}
use Rattle.mojette.specs.Refusals.{Refusal, refusal}
use Rattle.mojette.proofs.Bounds.{bins_most}
use Rattle.plan.specs.declared.places.Place.{Place}
use Rattle.plan.specs.declared.plan.Plan.{Plan}
use Rattle.plan.specs.Laid.{direction_of, records_of, no_place, place_at}
use Rattle.plan.specs.Shapes.{shape, places_of}

abbrev directions : List Record → List Direction
directions es = map (λ e. e.direction) es

passed : (t : Bool) (rest : Option Refusal) (r : Refusal) → is_some (cond t rest (Some r)) ≡ false → (t ≡ true) × (is_some rest ≡ false)
passed true rest r h = (refl, h)
passed false rest r h = absurd (true≢false h)

each : (i : ℕ) (last : Option Direction) (es : List Record) → is_some (places_verdict i last es) ≡ false → all_lawful (directions es) ≡ true
each i last [] h = refl
each i last (e ∷ es) h =
    let this = passed (lawful e.direction) _ _ h in
    let next = passed (follows last e.direction) _ _ this.1 in
    and_from (lawful e.direction) _ this.0 (each (suc i) (Some e.direction) es next.1)

ordered_after : (i : ℕ) (d : Direction) (es : List Record) → is_some (places_verdict i (Some d) es) ≡ false → in_order (d ∷ directions es) ≡ true
ordered_after i d [] h = refl
ordered_after i d (e ∷ es) h =
    let this = passed (lawful e.direction) _ _ h in
    let next = passed (follows (Some d) e.direction) _ _ this.1 in
    and_from (follows (Some d) e.direction) _ next.0 (ordered_after (suc i) e.direction es next.1)

ordered : (i : ℕ) (es : List Record) → is_some (places_verdict i None es) ≡ false → in_order (directions es) ≡ true
ordered i [] h = refl
ordered i (e ∷ es) h = ordered_after (suc i) e.direction es (passed (lawful e.direction) _ _ h).1

-- The directions of a lawful shape are lawful and in order.
pub lawful_directions : (s : Shape) → is_some (verdict s) ≡ false → LawfulDirections (map (λ e. e.direction) s.records)
unfolding verdict
lawful_directions s h =
    let sized = passed (side_ok s.P && side_ok s.Q) _ (refusal 1 0 0 0) h in
    let counted = passed (number_ok (length s.records)) (places_verdict 0 None s.records) (refusal 2 0 0 0) sized.1 in
    let places = counted.1 in
    record { each = each 0 None s.records places; ordered = ordered 0 s.records places }

lawful_at : (xs : List Place) (i : ℕ) → i < length xs → all_lawful (directions (records_of xs)) ≡ true → lawful (direction_of (place_at xs i)) ≡ true
lawful_at [] i l h = absurd (omega arith)
lawful_at (x ∷ xs) zero l h = (and_parts (lawful (direction_of x)) _ h).0
lawful_at (x ∷ xs) (suc i) l h = lawful_at xs i (omega arith) (and_parts (lawful (direction_of x)) _ h).1

module _ (plan : Plan) where
  -- Each of the places of a plan has a lawful direction.
  pub place_lawful : (xs : List Place) (i : ℕ) → xs ≡ places_of plan → i < length xs → lawful (direction_of (place_at xs i)) ≡ true
  place_lawful xs i e l = lawful_at xs i l (ap (λ zs. all_lawful (directions (records_of zs))) e ∙ (lawful_directions (shape plan) plan.lawful).each)

  -- and few bins
  pub few_bins : All (λ x. x.bins ≤ most_bins) (places_of plan)
  few_bins = All-from_get_or (λ (x : Place). x.bins ≤ most_bins) (places_of plan) no_place
      (λ i l. omega (arith, plan.sizes i l, bins_most (direction_of (place_at (places_of plan) i)) (place_lawful (places_of plan) i refl l) plan.size.columns plan.size.rows plan.size.few_columns plan.size.few_rows))
