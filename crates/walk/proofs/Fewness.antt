-- At each position of a plan few pixels lie: no more than a tile has rows, or columns.
use Rattle.std.proofs.Common.{◌≡◌, ℕ, zero, suc, ◌+◌, ◌-◌, ◌*◌, ◌<◌, ◌≤◌, Bool, true, false, ◌&&◌, List, length, get_or, sym, refl, ap, ◌∙◌, subst, ⊎_elim, add-one, arith}
use Rattle.std.proofs.lemmas.Bool.{cases_lt}
use Rattle.mojette.specs.Bins.{bins, in_bin, whole, start}
use Rattle.mojette.specs.Bounds.{most_side}
use Rattle.mojette.specs.Meaning.{pixels_of, bins_of}
use Rattle.peeling.specs.Counting.{number}
use Rattle.peeling.proofs.Counts.{number_same}
use Rattle.peeling.proofs.Loops.{get_or-filled}
use Rattle.law.specs.Positions.{incidence}
use Rattle.plan.specs.declared.places.Place.{Place}
use Rattle.plan.specs.declared.plan.Plan.{Plan}
use Rattle.plan.specs.Laid.{direction_of, record_of, records_of}
use Rattle.plan.specs.Laid.{place_at as nth}
use Rattle.plan.specs.Shapes.{shape, places_of}
use Rattle.walk.specs.Counts.{counted, pixels_of_bin, FewPixels}
use Rattle.walk.specs.Lines.{OnTile}
use Rattle.walk.proofs.Cells.{pixels_by_rows}
use Rattle.walk.proofs.Counting.{across, none_in_lost}
use Rattle.walk.proofs.Laying.{bins_are, on_tile, start_is, next_is, lies_is, all_starts}
use Rattle.walk.proofs.Tallies.{rows_most}

-- In a bin of a place: none if it is lost, a row if q is 0, and else one of each row at most.
few_in_bin : (P Q : ℕ) (x : Place) → OnTile P Q x.q x.slope 0 → (b : ℕ) → b < bins P Q (direction_of x) → pixels_of_bin P Q x b ≤ most_side
few_in_bin P Q x line b inside = go (whole (record_of x)) refl
  where
    go : (t : Bool) → whole (record_of x) ≡ t → pixels_of_bin P Q x b ≤ most_side
    go false lost = omega (arith, none_in_lost P Q x lost b)
    go true there = ⊎_elim
        (λ (slanted : 0 < x.q).
        let by_rows = number_same (P * Q) _ _ (λ c l. ap (λ t. t && in_bin P Q (direction_of x) c b) there) ∙ pixels_by_rows P Q x b in
        omega (arith, by_rows, rows_most P Q x.q x.slope (omega arith) b, line.few_rows))
        (λ (level : x.q ≤ 0). omega (arith, across P Q x there line b inside (omega arith), line.few_columns))
        (cases_lt 0 x.q)

module _ (plan : Plan) where
  abbrev pixels_at : ℕ → ℕ
  pixels_at at = number (pixels_of (shape plan)) (λ c. (incidence (shape plan)).lies c at)

  abbrev starts : ℕ → ℕ
  starts n = start plan.size.columns plan.size.rows (records_of (places_of plan)) n

  few_in_place : (i : ℕ) → i < length (places_of plan) → (b : ℕ) → b < (nth (places_of plan) i).bins → pixels_at ((nth (places_of plan) i).start + b) ≤ most_side
  few_in_place i l b inside =
      let same : pixels_at ((nth (places_of plan) i).start + b) ≡ pixels_of_bin plan.size.columns plan.size.rows (nth (places_of plan) i) b =
      number_same (pixels_of (shape plan)) _ _ (λ c k. lies_is plan i l b inside c) in
      let few = few_in_bin plan.size.columns plan.size.rows (nth (places_of plan) i) (on_tile plan i l 0 (omega arith)) b (omega (arith, bins_are plan i l)) in
      omega (arith, same, few)

  -- at the positions of the first n places
  few_below : (n : ℕ) → n ≤ length (places_of plan) → (at : ℕ) → at < starts n → pixels_at at ≤ most_side
  few_below zero l at h = absurd (omega arith)
  few_below (suc n) l at h = ⊎_elim
      (λ (before : at < starts n). few_below n (omega arith) at before)
      (λ (here : starts n ≤ at). last here)
      (cases_lt at (starts n))
    where
      last : starts n ≤ at → pixels_at at ≤ most_side
      last here =
          let e : (nth (places_of plan) n).start + (at - (nth (places_of plan) n).start) ≡ at = omega (arith, start_is plan n (omega arith)) in
          let next : starts (suc n) ≡ (nth (places_of plan) n).start + (nth (places_of plan) n).bins = ap starts (sym (add-one n)) ∙ next_is plan n (omega arith) in
          subst (λ k. pixels_at k ≤ most_side) e
          (few_in_place n (omega arith) (at - (nth (places_of plan) n).start) (omega (arith, next, start_is plan n (omega arith))))

  pub few_pixels : (b : ℕ) → b < bins_of (shape plan) → number (pixels_of (shape plan)) (λ c. (incidence (shape plan)).lies c b) ≤ most_side
  few_pixels b l =
      few_below (length (places_of plan)) (omega arith) b (omega (arith, all_starts plan (length (places_of plan)) (omega arith) (omega arith)))

  -- so that their counts are few
  pub few_counted : (counts new : List ℕ) → new ≡ counted (shape plan) counts → bins_of (shape plan) ≤ length counts → FewPixels (shape plan) new
  few_counted counts new is long b l =
      omega (arith, ap (λ xs. get_or xs b 0) is, get_or-filled (bins_of (shape plan)) pixels_at counts 0 b long l, few_pixels b l)
