-- What the invariant of a plan says of each of its places.
use Rattle.std.proofs.Common.{◌≡◌, ℕ, zero, suc, ◌+◌, ◌-◌, ◌*◌, ◌<◌, ◌≤◌, Bool, true, false, ◌&&◌, List, [], ◌∷◌, length, get_or, ℤ, pos, negsuc, ◌*ℤ◌, nat_abs, is_some, Some, None, Option, sym, refl, ap, ◌∙◌, subst, add-one, arith}
use Rattle.std.proofs.lemmas.List.{length-map}
use Rattle.std.proofs.lemmas.Int.{ints}
use Rattle.std.proofs.lemmas.Bool.{and_parts, true≢false}
use Rattle.mojette.specs.declared.direction.Record.{Record}
use Rattle.mojette.specs.Bins.{bins, in_bin, whole, start}
use Rattle.mojette.specs.Directions.{gcd, lawful, all_lawful}
use Rattle.mojette.specs.Meaning.{bins_of}
use Rattle.katz.proofs.Bezout.{bezout_coprime, times, first_is, second_is}
use Rattle.katz.proofs.Lawful.{lawful_is}
use Rattle.law.specs.Opening.{directions_of}
use Rattle.law.specs.Positions.{incidence, place_at, bin_at}
use Rattle.law.specs.Steps.{no_record}
use Rattle.law.proofs.Opening.{opens}
use Rattle.law.proofs.Places.{next_start, last_start, within_all, lies_of, place_of, bin_of_position}
use Rattle.plan.specs.declared.places.Place.{Place}
use Rattle.plan.specs.declared.plan.Plan.{Plan}
use Rattle.plan.specs.Laid.{signed, direction_of, record_of, records_of}
use Rattle.plan.specs.Laid.{place_at as nth}
use Rattle.plan.specs.Shapes.{shape, places_of}
use Rattle.mojette.specs.Bounds.{most_step}
use Rattle.mojette.proofs.Bounds.{steps_most}
use Rattle.plan.proofs.Cells.{size_of}
use Rattle.walk.specs.Lines.{Coprime, OnTile}

multiple : (t : ℤ) (a s : ℕ) → pos a ≡ t *ℤ pos s → a < s → a ≡ 0
multiple (pos zero) a s e l = omega (arith, ints)
multiple (pos (suc n)) a s e l = omega (arith, ints)
multiple (negsuc n) a s e l = omega (arith, ints)

coprime_of : (s q : ℕ) → gcd s q ≡ 1 → Coprime s q
coprime_of s q g u v e =
    let z = bezout_coprime (pos s) (pos q) g in
    let e' : pos s *ℤ pos v ≡ pos q *ℤ pos u = omega (arith, ints) in (
      multiple (times (pos s) (pos q) (pos u) (pos v) z e') u s (first_is (pos s) (pos q) (pos u) (pos v) z e'),
      multiple (times (pos s) (pos q) (pos u) (pos v) z e') v q (second_is (pos s) (pos q) (pos u) (pos v) z e'),
    )

is_none : {A : Type 0} (o : Option A) → is_some o ≡ false → o ≡ None
is_none None e = refl
is_none (Some x) e = absurd (true≢false e)

lawful_at : (xs : List Place) (i : ℕ) → i < length xs → all_lawful (directions_of (records_of xs)) ≡ true → lawful (direction_of (nth xs i)) ≡ true
lawful_at [] i l all = absurd (omega arith)
lawful_at (x ∷ xs) zero l all = (and_parts _ _ all).0
lawful_at (x ∷ xs) (suc i) l all = lawful_at xs i (omega arith) (and_parts _ _ all).1

some_step : (q : ℕ) (leftward : Bool) (n : ℕ) → (pos q ≡ pos 0 → signed leftward n ≡ pos 1) → 1 ≤ q + n
some_step zero leftward n level = let e : n ≡ 1 = sym (size_of leftward n) ∙ ap nat_abs (level refl) in omega arith
some_step (suc q) leftward n level = omega arith

pub record_at : (xs : List Place) (i : ℕ) → i < length xs → get_or (records_of xs) i no_record ≡ record_of (nth xs i)
record_at [] i l = absurd (omega arith)
record_at (x ∷ xs) zero l = refl
record_at (x ∷ xs) (suc i) l = record_at xs i (omega arith)

-- place i of a plan
module _ (plan : Plan) (i : ℕ) (l : i < length (places_of plan)) where
  abbrev x : Place
  x = nth (places_of plan) i

  abbrev P : ℕ
  P = plan.size.columns

  abbrev Q : ℕ
  Q = plan.size.rows

  abbrev es : List Record
  es = records_of (places_of plan)

  in_records : i < length es
  in_records = let e = length-map (places_of plan) record_of in omega arith

  law : lawful (direction_of x) ≡ true
  law = lawful_at (places_of plan) i l (opens (shape plan) (is_none _ plan.lawful)).directions.each

  pub bins_are : x.bins ≡ bins P Q (direction_of x)
  bins_are = plan.sizes i l

  pub on_tile : (b : ℕ) → b < x.bins → OnTile P Q x.q x.slope b
  on_tile b inside = record {
    some_columns = plan.size.some_columns;
    few_columns = plan.size.few_columns;
    some_rows = plan.size.some_rows;
    few_rows = plan.size.few_rows;
    q_most = (steps_most (direction_of x) law).1;
    s_most = subst (λ n. n ≤ most_step) slope (steps_most (direction_of x) law).0;
    steps = some_step x.q x.leftward x.slope (lawful_is (direction_of x) law).level;
    coprime = coprime_of x.slope x.q (subst (λ n. gcd n x.q ≡ 1) slope (lawful_is (direction_of x) law).coprime);
    inside = let e = ap (λ (n : ℕ). (Q - 1) * n) slope in omega (arith, bins_are);
  }
    where
      slope : nat_abs (signed x.leftward x.slope) ≡ x.slope
      slope = size_of x.leftward x.slope

  -- Its positions -------------------------------------------------------------------------------------------------

  here : get_or es i no_record ≡ record_of x
  here = record_at (places_of plan) i l

  size : bins P Q (get_or es i no_record).direction ≡ x.bins
  size = ap (λ e. bins P Q e.direction) here ∙ sym bins_are

  pub start_is : x.start ≡ start P Q es i
  start_is = plan.starts i l

  pub next_is : start P Q es (i + 1) ≡ x.start + x.bins
  next_is = ap (start P Q es) (add-one i) ∙ next_start P Q es i in_records ∙ (λ j. sym start_is j + size j)

  pub ends_inside : x.start + x.bins ≤ plan.total
  ends_inside =
      let h = within_all P Q es i (bins P Q (get_or es i no_record).direction - 1) in_records (omega arith) in
      omega (arith, size, start_is, plan.full)

  module _ (b : ℕ) (inside : b < x.bins) where
    in_size : b < bins P Q (get_or es i no_record).direction
    in_size = omega (arith, size)

    pub place_is : place_at P Q es (x.start + b) ≡ i
    place_is = ap (λ n. place_at P Q es (n + b)) start_is ∙ place_of P Q es i b in_records in_size

    pub bin_is : bin_at P Q es (x.start + b) ≡ b
    bin_is = ap (λ n. bin_at P Q es (n + b)) start_is ∙ bin_of_position P Q es i b in_records in_size

    pub lies_is : (c : ℕ) → (incidence (shape plan)).lies c (x.start + b) ≡ (whole (record_of x) && in_bin P Q (direction_of x) c b)
    lies_is c =
        ap (λ n. (incidence (shape plan)).lies c (n + b)) start_is ∙ lies_of P Q es c i b in_records in_size
        ∙ ap (λ e. whole e && in_bin P Q e.direction c b) here

-- where the places end
pub all_starts : (plan : Plan) (i : ℕ) → i ≤ length (places_of plan) → length (places_of plan) ≤ i →
    start plan.size.columns plan.size.rows (records_of (places_of plan)) i ≡ bins_of (shape plan)
all_starts plan i l l' =
    let e : i ≡ length (records_of (places_of plan)) = let f = length-map (places_of plan) record_of in omega arith in
    ap (start plan.size.columns plan.size.rows (records_of (places_of plan))) e ∙ last_start plan.size.columns plan.size.rows (records_of (places_of plan))

-- What a turn at place i of the places ys knows, where ys are the plan's own.
pub record Turn (plan : Plan) (ys : List Place) (i : ℕ) : Type 0 where
  pub known : i < length (places_of plan)
  pub same : nth ys i ≡ nth (places_of plan) i
  pub starts : (nth ys i).start ≡ start plan.size.columns plan.size.rows (records_of (places_of plan)) i
  pub next : start plan.size.columns plan.size.rows (records_of (places_of plan)) (i + 1) ≡ (nth ys i).start + (nth ys i).bins
  pub inside : (nth ys i).start + (nth ys i).bins ≤ plan.total

pub turn : (plan : Plan) (ys : List Place) (i : ℕ) → ys ≡ places_of plan → i < length ys → Turn plan ys i
turn plan ys i e l =
    let k : i < length (places_of plan) = subst (λ zs. i < length zs) e l in
    let same : nth ys i ≡ nth (places_of plan) i = ap (λ zs. nth zs i) e in
    record {
      known = k;
      same = same;
      starts = ap (λ z. z.start) same ∙ start_is plan i k;
      next = next_is plan i k ∙ (λ j. (sym same j).start + (sym same j).bins);
      inside = subst (λ z. z.start + z.bins ≤ plan.total) (sym same) (ends_inside plan i k);
    }
