-- What the projection of the numbered tile is, and one turn over the places.
use Rattle.std.proofs.Common.{◌≡◌, ℕ, ◌+◌, ◌-◌, ◌*◌, ◌<◌, ◌≤◌, true, false, cond, not, ltb, ◌&&◌, ◌⊎◌, List, ◌++◌, length, get_or, take, drop, inl, inr, sym, ap, ◌∙◌, subst, arith}
use Rattle.std.proofs.lemmas.Nat.{mul-le}
use Rattle.std.proofs.lemmas.Bool.{cond-false, and_from, le-ltb, cases_lt}
use Rattle.std.proofs.lemmas.List.{get_or_append_left, get_or-append-add, get_or-take, length-take-le}
use borrow.Rule.Slice.PartMut.{put_mid, post_of}
use Rattle.std.proofs.lemmas.List.FromFn.{get_or-map-range_with_len, length-map-range_with_len}
use Rattle.samples.proofs.Sums.{sum_same, sum_zero}
use Rattle.mojette.specs.declared.direction.Direction.{Direction}
use Rattle.mojette.specs.Bins.{bins, in_bin, whole, start}
use Rattle.mojette.specs.Bounds.{most_side, most_pixels, most_step}
use Rattle.mojette.specs.Directions.{lawful}
use Rattle.mojette.specs.Meaning.{Shape, side_ok, pixels_of}
use Rattle.mojette.specs.Transform.{bin_sum, projection}
use Rattle.mojette.specs.declared.size.Size.{Size}
use Rattle.plan.specs.declared.places.Place.{Place}
use Rattle.plan.specs.declared.plan.Plan.{Plan}
use Rattle.plan.specs.Laid.{direction_of, record_of, records_of}
use Rattle.plan.specs.Laid.{place_at as nth}
use Rattle.plan.specs.Projecting.{Projected, projecting}
use Rattle.plan.specs.Shapes.{shape, places_of}
use Rattle.mojette.proofs.Bounds.{steps_most}
use Rattle.plan.proofs.Cells.{size_of}
use Rattle.walk.proofs.Laying.{bins_are, start_is, next_is, lies_is}
use Rattle.notes.specs.declared.note.Note.{Note}
use Rattle.notes.specs.Words.{note_zero}
use Rattle.notes.specs.Notes.{notes, note_of_cell, note_of_bin}
use Rattle.notes.specs.Noting.{Numbered, note_of_place}

-- a served call
served : (size : Size) (d : Direction) (picture sums : List Note) → lawful d ≡ true → size.columns * size.rows ≤ length picture → length sums ≡ bins size.columns size.rows d
    → (projecting notes size.columns size.rows d picture sums).sums ≡ projection notes size.columns size.rows picture d ++ drop (bins size.columns size.rows d) sums
served size d picture sums law room long =
    ap (λ (r : Projected Note). r.sums)
    (cond-false (not (side_ok size.columns && side_ok size.rows)) _ _ (ap not (and_from (side_ok size.columns) (side_ok size.rows) size.columns_ok size.rows_ok))
    ∙ cond-false (not (lawful d)) _ _ (ap not law)
    ∙ cond-false (ltb (length picture) (size.columns * size.rows)) _ _ (le-ltb _ _ room)
    ∙ cond-false (ltb (length sums) (bins size.columns size.rows d)) _ _ (le-ltb _ _ (omega arith)))

module _ (size : Size) (x : Place) where
  abbrev P : ℕ
  P = size.columns

  abbrev Q : ℕ
  Q = size.rows

  pixels_most : P * Q ≤ most_pixels
  pixels_most = omega (arith, mul-le P Q most_side most_side size.few_columns size.few_rows)

  -- a whole place
  pub place_noted :
      (tile old new : List Note) (d : Direction) (answer : Projected Note) → d ≡ direction_of x → lawful (direction_of x) ≡ true → whole (record_of x) ≡ true
      → Numbered tile → length old ≡ bins P Q (direction_of x) → answer ≡ projecting notes P Q d tile old → new ≡ answer.sums
      → (b : ℕ) → b < length old → get_or new b note_zero ≡ note_of_place P Q x b
  place_noted tile old new d answer is law here numbered long e f b l =
      let m = pixels_most in
      let own = direction_of x in
      let B = bins P Q own in
      let size-of : length (projection notes P Q tile own) ≡ B = length-map-range_with_len (bin_sum notes P Q tile own) 0 B in
      ap (λ ys. get_or ys b note_zero) (f ∙ ap (λ (r : Projected Note). r.sums) (e ∙ ap (λ z. projecting notes P Q z tile old) is) ∙ served size own tile old law (omega (arith, numbered.long)) long)
      ∙ get_or_append_left (projection notes P Q tile own) (drop B old) note_zero b (omega arith)
      ∙ get_or-map-range_with_len (bin_sum notes P Q tile own) 0 B b b note_zero (omega arith) (omega arith)
      ∙ sum_same notes (P * Q) _ _ (λ c k. (λ i. cond (in_bin P Q own c b) (numbered.each c (omega arith) i) note_zero) ∙ ap (λ t. cond (t && in_bin P Q own c b) (note_of_cell c) note_zero) (sym here))

  -- a lost place
  pub lost_noted : whole (record_of x) ≡ false → (b : ℕ) → note_zero ≡ note_of_place P Q x b
  lost_noted lost b = sym (sum_zero notes (P * Q) _ (λ c k. ap (λ t. cond (t && in_bin P Q (direction_of x) c b) (note_of_cell c) note_zero) lost))

-- Each bin before n has its note.
abbrev pub NotedBelow : Shape → ℕ → List Note → Type 0
NotedBelow s n xs = (b : ℕ) → b < n → get_or xs b note_zero ≡ note_of_bin s b

-- a part of a list written, and the cells before it
module _ (xs ys : List Note) (from n : ℕ) (room : from + n ≤ length xs) (long : length ys ≡ n) where
  abbrev new : List Note
  new = put_mid from (from + n - from) xs ys

  part_before : (b : ℕ) → b < from → get_or new b note_zero ≡ get_or xs b note_zero
  part_before b l =
      get_or_append_left (take from xs) (ys ++ post_of from (from + n - from) xs) note_zero b (omega (arith, length-take-le from xs))
      ∙ get_or-take from xs b note_zero l

  part_at : (b : ℕ) → b < n → get_or new (from + b) note_zero ≡ get_or ys b note_zero
  part_at b l =
      let e : length (take from xs) ≡ from = length-take-le from xs (omega arith) in
      ap (λ m. get_or new (m + b) note_zero) (sym e)
      ∙ get_or-append-add (take from xs) (ys ++ post_of from (from + n - from) xs) b note_zero
      ∙ get_or_append_left ys (post_of from (from + n - from) xs) note_zero b (omega arith)

  part_written : (s : Shape) → NotedBelow s from xs → ((b : ℕ) → b < n → get_or ys b note_zero ≡ note_of_bin s (from + b)) → NotedBelow s (from + n) new
  part_written s before here b l = go (cases_lt b from)
    where
      go : (b < from) ⊎ (from ≤ b) → get_or new b note_zero ≡ note_of_bin s b
      go (inl k) = part_before b k ∙ before b k
      go (inr k) =
          let e : from + (b - from) ≡ b = omega arith in
          subst (λ m. get_or new m note_zero ≡ note_of_bin s m) e (part_at (b - from) (omega arith) ∙ here (b - from) (omega arith))

pub steps_of : (x : Place) → lawful (direction_of x) ≡ true → (x.slope ≤ most_step) × (x.q ≤ most_step)
steps_of x law = let few = steps_most (direction_of x) law in (subst (λ n. n ≤ most_step) (size_of x.leftward x.slope) few.0, few.1)

-- what the code holds of place i of a plan
module _ (plan : Plan) (i : ℕ) (l : i < length (places_of plan)) (size : Size) (x : Place)
    (columns : size.columns ≡ plan.size.columns) (rows : size.rows ≡ plan.size.rows) (place : x ≡ nth (places_of plan) i) where
  abbrev starts : ℕ → ℕ
  starts n = start plan.size.columns plan.size.rows (records_of (places_of plan)) n

  pub bins_of_place : x.bins ≡ bins size.columns size.rows (direction_of x)
  bins_of_place = (λ j. (place j).bins) ∙ bins_are plan i l ∙ (λ j. bins (sym columns j) (sym rows j) (direction_of (sym place j)))

  pub one_place_more :
      (xs ys : List Note) → x.start + x.bins ≤ length xs → length ys ≡ x.bins
      → ((b : ℕ) → b < x.bins → get_or ys b note_zero ≡ note_of_place size.columns size.rows x b)
      → NotedBelow (shape plan) (starts i) xs → NotedBelow (shape plan) (starts (i + 1)) (put_mid x.start (x.start + x.bins - x.start) xs ys)
  one_place_more xs ys room long here before =
      let own = nth (places_of plan) i in
      let begins : x.start ≡ starts i = ap (λ z. z.start) place ∙ start_is plan i l in
      let ends : x.start + x.bins ≡ starts (i + 1) = (λ j. (place j).start + (place j).bins) ∙ sym (next_is plan i l) in
      let same = λ (b : ℕ) (k : b < x.bins).
      here b k ∙ (λ j. note_of_place (columns j) (rows j) (place j) b)
      ∙ sum_same notes (pixels_of (shape plan)) _ _ (λ c m. ap (λ t. cond t (note_of_cell c) note_zero) (sym (lies_is plan i l b (subst (λ z. b < z.bins) place k) c)))
      ∙ ap (λ n. note_of_bin (shape plan) (n + b)) (ap (λ z. z.start) (sym place)) in
      subst (λ n. NotedBelow (shape plan) n (put_mid x.start (x.start + x.bins - x.start) xs ys)) ends
      (part_written xs ys x.start x.bins room long (shape plan) (subst (λ n. NotedBelow (shape plan) n xs) (sym begins) before) same)
