-- Where a pixel lies among the positions of a place.
use Rattle.std.specs.Prelude.{◌≡◌, ℕ, ◌+◌, ◌<◌, ◌≤◌, true, false, length, ◌≢◌}
use Rattle.mojette.specs.Bins.{start}
use Rattle.law.specs.Positions.{incidence}
use Rattle.plan.specs.declared.places.Place.{Place}
use Rattle.plan.specs.declared.plan.Plan.{Plan}
use Rattle.plan.specs.Laid.{place_at as nth}
use Rattle.plan.specs.Shapes.{shape, places_of}
use Rattle.walk.specs.declared.pixel.Pixel.{Pixel}
use Rattle.walk.specs.Finding.{OfTile}

-- the position of bin 0 of place i
abbrev pub starts : Plan → ℕ → ℕ
starts plan i = start (shape plan).P (shape plan).Q (shape plan).records i

-- Of the positions of place i, the pixel in cell c lies at `at` if the place is whole, and at no other.
pub record Lies (plan : Plan) (i c at : ℕ) : Type 0 where
  pub from : starts plan i ≤ at
  pub below : at < starts plan (i + 1)
  pub there : (nth (places_of plan) i).cause ≡ 0 → (incidence (shape plan)).lies c at ≡ true
  pub only : (x : ℕ) → starts plan i ≤ x → x < starts plan (i + 1) → (x ≢ at) → (incidence (shape plan)).lies c x ≡ false

-- It lies in bin b wherever a plan for P by Q pixels has this place, and its tile this pixel.
abbrev pub LiesWherever : ℕ → ℕ → Place → Pixel → ℕ → Type 0
LiesWherever P Q place pixel b =
    (plan : Plan) → (shape plan).P ≡ P → (shape plan).Q ≡ Q → (i : ℕ) → i < length (places_of plan) → nth (places_of plan) i ≡ place
    → OfTile P Q pixel → Lies plan i pixel.cell (starts plan i + b)
