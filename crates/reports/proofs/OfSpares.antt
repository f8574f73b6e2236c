-- What C and R are without a place.
use Rattle.std.proofs.Common.{◌≡◌, ℕ, zero, suc, ◌+◌, ◌<◌, ◌≤◌, Bool, true, false, cond, ◌||◌, leb, List, [], ◌∷◌, nat_abs, Some, None, Option, sym, refl, ap, ◌∙◌, arith}
use Rattle.std.specs.Prelude.{slice_get}
use Rattle.std.proofs.lemmas.Bool.Decides.{nat_tests}
use Rattle.mojette.specs.declared.direction.Direction.{Direction}
use Rattle.mojette.specs.Directions.{columns, rows}
use Rattle.katz.specs.Sets.{enough}
use Rattle.mojette.specs.Bins.{whole, whole_directions}
use Rattle.plan.specs.declared.places.Place.{Place}
use Rattle.plan.specs.Laid.{direction_of, record_of, records_of}
use Rattle.plan.proofs.Cells.{size_of}
use Rattle.plan.proofs.Reaching.{Total, columns_total, rows_total}
use Rattle.reports.specs.Spares.{without, part_of}

-- what a place adds to a total
abbrev pub adds : Total → Option Place → ℕ
adds t None = 0
adds t (Some x) = cond (whole (record_of x)) (t.each (direction_of x)) 0

module _ (t : Total) where
  one : (x : Place) (xs : List Place) (w : Bool) → t.all (cond w (direction_of x ∷ whole_directions (records_of xs)) (whole_directions (records_of xs))) ≡ cond w (t.each (direction_of x)) 0 + t.all (whole_directions (records_of xs))
  one x xs true = t.more (direction_of x) (whole_directions (records_of xs))
  one x xs false = omega arith

  -- The place adds to the total of the others.
  pub total_without : (xs : List Place) (i : ℕ) → t.all (whole_directions (records_of xs)) ≡ adds t (slice_get xs i) + t.all (whole_directions (without i (records_of xs)))
  total_without [] i = omega arith
  total_without (x ∷ xs) zero = one x xs (whole (record_of x))
  total_without (x ∷ xs) (suc i) = go (whole (record_of x)) (total_without xs i)
    where
      go : (w : Bool) → t.all (whole_directions (records_of xs)) ≡ adds t (slice_get xs i) + t.all (whole_directions (without i (records_of xs)))
          → t.all (cond w (direction_of x ∷ whole_directions (records_of xs)) (whole_directions (records_of xs)))
          ≡ adds t (slice_get xs i) + t.all (cond w (direction_of x ∷ whole_directions (without i (records_of xs))) (whole_directions (without i (records_of xs))))
      go true h = omega (arith, t.more (direction_of x) (whole_directions (records_of xs)), t.more (direction_of x) (whole_directions (without i (records_of xs))))
      go false h = h

columns_part : (x : Place) (w : Bool) → (cond {A = ℕ × ℕ} w (x.slope, x.q) (0, 0)).0 ≡ cond w (nat_abs (direction_of x).p) 0
columns_part x true = sym (size_of x.leftward x.slope)
columns_part x false = refl

rows_part : (x : Place) (w : Bool) → (cond {A = ℕ × ℕ} w (x.slope, x.q) (0, 0)).1 ≡ cond w (nat_abs (direction_of x).q) 0
rows_part x true = refl
rows_part x false = refl

pub part_columns : (o : Option Place) → (part_of o).0 ≡ adds columns_total o
part_columns None = refl
part_columns (Some x) = columns_part x (whole (record_of x))

pub part_rows : (o : Option Place) → (part_of o).1 ≡ adds rows_total o
part_rows None = refl
part_rows (Some x) = rows_part x (whole (record_of x))

-- the test of the criterion, where its first half is known
pub by_columns : (P Q c : ℕ) (ds : List Direction) → c ≡ columns ds → P ≤ c → leb P c ≡ enough P Q ds
by_columns P Q c ds e h =
    let a : leb P c ≡ true = grind (arith, nat_tests) in
    let b : leb P (columns ds) ≡ true = grind (arith, nat_tests) in
    a ∙ sym (ap (λ t. t || leb Q (rows ds)) b)

pub by_rows : (P Q c r : ℕ) (ds : List Direction) → c ≡ columns ds → r ≡ rows ds → c < P → leb Q r ≡ enough P Q ds
by_rows P Q c r ds e f h =
    let b : leb P (columns ds) ≡ false = grind (arith, nat_tests) in
    ap (leb Q) f ∙ sym (ap (λ t. t || leb Q (rows ds)) b)
