-- Sums over the directions of the whole places, place by place.
use Rattle.std.proofs.Common.{◌≡◌, ℕ, zero, suc, ◌+◌, ◌*◌, ◌<◌, ◌≤◌, Bool, true, false, cond, List, [], ◌∷◌, map, length, drop, ℤ, pos, negsuc, nat_abs, refl, ap, ◌∙◌, arith}
use Rattle.std.proofs.lemmas.List.{length-take, length-map, at_drop_more, at_drop_all}
use Rattle.std.proofs.lemmas.Bool.{and_parts}
use Rattle.mojette.specs.declared.direction.Direction.{Direction}
use Rattle.mojette.specs.declared.direction.Record.{Record}
use Rattle.mojette.specs.Bins.{whole, whole_directions}
use Rattle.mojette.specs.Directions.{lawful, all_lawful, columns, rows}
use Rattle.katz.specs.Made.{left, leftward}
use Rattle.plan.specs.declared.places.Place.{Place}
use Rattle.plan.specs.declared.plan.Plan.{Plan}
use Rattle.plan.specs.Criteria.{whole_of}
use Rattle.plan.specs.Laid.{direction_of, record_of, records_of, no_place, place_at}
use Rattle.plan.specs.Shapes.{shape, places_of}
use Rattle.mojette.specs.Bounds.{most_step}
use Rattle.mojette.proofs.Bounds.{steps_most}
use Rattle.plan.proofs.Lawful.{lawful_directions}

pub left_most : (p : ℤ) → left p ≤ nat_abs p
left_most (pos n) = omega arith
left_most (negsuc n) = omega arith

-- a number for each direction, at most 7 for a lawful one, and the sum of these
pub record Total : Type 0 where
  pub each : Direction → ℕ
  pub all : List Direction → ℕ
  pub none : all [] ≡ 0
  pub more : (d : Direction) (ds : List Direction) → all (d ∷ ds) ≡ each d + all ds
  pub few : (d : Direction) → lawful d ≡ true → each d ≤ most_step

abbrev pub columns_total : Total
columns_total = record { each = λ d. nat_abs d.p; all = columns; none = refl; more = λ d ds. refl; few = λ d h. (steps_most d h).0 }

abbrev pub rows_total : Total
rows_total = record { each = λ d. nat_abs d.q; all = rows; none = refl; more = λ d ds. refl; few = λ d h. (steps_most d h).1 }

abbrev pub left_total : Total
left_total = record { each = λ d. left d.p; all = leftward; none = refl; more = λ d ds. refl; few = λ d h. omega (arith, left_most d.p, (steps_most d h).0) }

module _ (t : Total) where
  -- over the whole places
  abbrev pub over : List Place → ℕ
  over xs = t.all (whole_directions (records_of xs))

  -- a place before others, if it is whole
  abbrev joined : Place → List Direction → Bool → ℕ
  joined x ds w = t.all (cond w (direction_of x ∷ ds) ds)

  module _ (xs : List Place) (i : ℕ) (l : i < length xs) where
    pub over_whole : whole (record_of (place_at xs i)) ≡ true → over (drop i xs) ≡ t.each (direction_of (place_at xs i)) + over (drop (i + 1) xs)
    over_whole e =
        at_drop_more over xs i no_place l ∙ ap (joined (place_at xs i) (whole_directions (records_of (drop (i + 1) xs)))) e
        ∙ t.more (direction_of (place_at xs i)) _

    pub over_lost : whole (record_of (place_at xs i)) ≡ false → over (drop i xs) ≡ over (drop (i + 1) xs)
    over_lost e = at_drop_more over xs i no_place l ∙ ap (joined (place_at xs i) (whole_directions (records_of (drop (i + 1) xs)))) e

  pub over_end : (xs : List Place) (i : ℕ) → length xs ≤ i → over (drop i xs) ≡ 0
  over_end xs i l = at_drop_all over xs i l ∙ t.none

  pub over_part : (xs : List Place) (i : ℕ) → over (drop i xs) ≤ over xs
  over_part xs zero = omega arith
  over_part [] (suc i) = omega arith
  over_part (x ∷ xs) (suc i) = go (whole (record_of x)) (over_part xs i)
    where
      go : (w : Bool) → over (drop i xs) ≤ over xs → over (drop i xs) ≤ joined x (whole_directions (records_of xs)) w
      go true h = omega (arith, t.more (direction_of x) (whole_directions (records_of xs)))
      go false h = h

  over_most : (es : List Record) → all_lawful (map (λ e. e.direction) es) ≡ true → t.all (whole_directions es) ≤ most_step * length es
  over_most [] h = omega (arith, t.none)
  over_most (e ∷ es) h =
      let parts = and_parts (lawful e.direction) _ h in
      go (whole e) (t.few e.direction parts.0) (over_most es parts.1)
    where
      go : (w : Bool) → t.each e.direction ≤ most_step → t.all (whole_directions es) ≤ most_step * length es
          → t.all (cond w (e.direction ∷ whole_directions es) (whole_directions es)) ≤ most_step * length (e ∷ es)
      go true a b = omega (arith, t.more e.direction (whole_directions es))
      go false a b = omega arith

  -- a plan has few places
  pub plan_most : (plan : Plan) → t.all (whole_of (shape plan)) ≤ 112
  plan_most plan =
      omega (arith, over_most (shape plan).records (lawful_directions (shape plan) plan.lawful).each, length-map (places_of plan) record_of, length-take plan.count plan.places, plan.few_places)
