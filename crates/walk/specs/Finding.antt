-- The place and the bin at a position, and the missing pixel of a bin.
use Rattle.std.specs.Prelude.{◌≡◌, ℕ, ◌+◌, ◌*◌, ◌/◌, ◌%◌, ◌<◌, Bool, cond, ◌&&◌, List, length, Some, None, Option, ◌==◌, nat_le, nat_lt, slice_index}
use Rattle.mojette.specs.Meaning.{Shape, pixels_of, bins_of}
use Rattle.peeling.specs.Counting.{number, least}
use Rattle.law.specs.Positions.{incidence, place_at, bin_at}
use Rattle.plan.specs.declared.plan.Plan.{Plan}
use Rattle.plan.specs.Laid.{place_at as nth}
use Rattle.plan.specs.Shapes.{places_of}
use Rattle.walk.specs.declared.pixel.Pixel.{Pixel}

-- the place and the bin at position x, if there is one
abbrev pub standing : Shape → ℕ → Option (ℕ × ℕ)
standing s x = cond (nat_lt x (bins_of s)) (Some (place_at s.P s.Q s.records x, bin_at s.P s.Q s.records x)) None

-- Position x is bin b of place i, as the plan lays it out.
pub record Stands (plan : Plan) (x i b : ℕ) : Type 0 where
  pub known : i < length (places_of plan)
  pub inside : b < (nth (places_of plan) i).bins
  pub position : x ≡ (nth (places_of plan) i).start + b

-- the pixel in cell c of a tile with P columns
abbrev pub pixel_in : ℕ → ℕ → Pixel
pixel_in P c = record { column = c % P; row = c / P; cell = c }

-- the pixel of a tile that alone passes a test of its cell, if there is one
abbrev pub alone : ℕ → ℕ → (ℕ → Bool) → Option Pixel
alone P Q test = cond (number (P * Q) test == 1) (Some (pixel_in P (least (P * Q) test))) None

-- the pixel in cell c lies at position x, and its mark says that it is missing
abbrev pub missing_at : Shape → List ℕ → ℕ → ℕ → Bool
missing_at s marks x c = (incidence s).lies c x && slice_index marks c == 0

-- the one missing pixel of the bin at position x, if there are such a bin, marks of all pixels, and exactly one such pixel
abbrev pub lone : Shape → List ℕ → ℕ → Option Pixel
lone s marks x = cond (nat_lt x (bins_of s) && nat_le (pixels_of s) (length marks)) (alone s.P s.Q (missing_at s marks x)) None

-- A pixel of a tile of P by Q.
pub record OfTile (P Q : ℕ) (x : Pixel) : Type 0 where
  pub column : x.column < P
  pub row : x.row < Q
  pub cell : x.cell ≡ x.row * P + x.column
