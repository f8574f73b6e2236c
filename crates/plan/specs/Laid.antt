-- A place as the code holds it.
use Rattle.std.specs.Prelude.{◌≡◌, ℕ, ◌+◌, ◌-◌, ◌*◌, ◌<◌, Bool, false, cond, List, map, length, ℤ, pos, neg_ℤ, int_lt, slice_index_or, unsigned_abs}
use Rattle.mojette.specs.declared.direction.Direction.{Direction}
use Rattle.mojette.specs.declared.direction.Record.{Record}
use Rattle.mojette.specs.Bins.{bins, start}
use Rattle.mojette.specs.Meaning.{Shape}
use Rattle.plan.specs.declared.places.Place.{Place}

-- the place of a record, whose bin 0 has the position `start`
abbrev pub laid : ℕ → ℕ → Record → ℕ → Place
laid P Q e start = record {
  slope = unsigned_abs e.direction.p;
  leftward = int_lt e.direction.p (pos 0);
  q = unsigned_abs e.direction.q;
  cause = e.cause;
  start = start;
  bins = bins P Q e.direction;
}

-- p, by its size and its sign
abbrev pub signed : Bool → ℕ → ℤ
signed leftward n = cond leftward (neg_ℤ (pos n)) (pos n)

-- the direction and the record of a place
abbrev pub direction_of : Place → Direction
direction_of x = record { p = signed x.leftward x.slope; q = pos x.q }

abbrev pub record_of : Place → Record
record_of x = record { direction = direction_of x; cause = x.cause }

abbrev pub records_of : List Place → List Record
records_of xs = map record_of xs

abbrev pub shape_from : ℕ → ℕ → List Place → Shape
shape_from P Q xs = record { P = P; Q = Q; records = records_of xs }

abbrev pub no_place : Place
no_place = record { slope = 0; leftward = false; q = 0; cause = 0; start = 0; bins = 0 }

abbrev pub place_at : List Place → ℕ → Place
place_at xs i = slice_index_or xs i no_place

-- Each place knows its first position and its bins.
abbrev pub Starts : ℕ → ℕ → List Place → Type 0
Starts P Q xs = (i : ℕ) → i < length xs → (place_at xs i).start ≡ start P Q (records_of xs) i

abbrev pub Sizes : ℕ → ℕ → List Place → Type 0
Sizes P Q xs = (i : ℕ) → i < length xs → (place_at xs i).bins ≡ bins P Q (direction_of (place_at xs i))

-- the row of a pixel, from the top, or from the bottom where the direction goes left
abbrev pub turned : Bool → ℕ → ℕ → ℕ
turned leftward Q l = cond leftward (Q - 1 - l) l

-- the bin of the pixel in column k and row l
abbrev pub bin_number : ℕ → ℕ → Place → ℕ → ℕ → ℕ
bin_number P Q x k l = (P - 1 - k) * x.q + turned x.leftward Q l * x.slope
