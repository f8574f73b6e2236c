-- Along the pixels of a line: the first of them, and the one that is missing.
use Rattle.std.specs.Prelude.{◌≡◌, ℕ, ◌+◌, ◌-◌, ◌*◌, ◌<◌, ◌≤◌, ◌&&◌, List, Option, ◌==◌, slice_index}
use Rattle.mojette.specs.Bins.{in_bin}
use Rattle.plan.specs.Laid.{turned, direction_of}
use Rattle.walk.specs.declared.line.Line.{Line}
use Rattle.walk.specs.declared.pixel.Pixel.{Pixel}
use Rattle.walk.specs.Finding.{alone}

-- the row at y
abbrev pub row_at : Line → ℕ → ℕ
row_at l y = turned l.place.leftward l.size.rows y

-- the pixel at x and y
abbrev pub pixel_at : Line → ℕ → ℕ → Pixel
pixel_at l x y = record {
  column = l.size.columns - 1 - x;
  row = row_at l y;
  cell = row_at l y * l.size.columns + (l.size.columns - 1 - x);
}

-- It is on the line.
pub record On (l : Line) (x y : ℕ) : Type 0 where
  pub left : x < l.size.columns
  pub low : y < l.size.rows
  pub on : x * l.place.q + y * l.place.slope ≡ l.bin

-- All pixels of the line lie at (x, y), or further left and further along.
abbrev pub Ahead : Line → ℕ → ℕ → Type 0
Ahead l x y = (u v : ℕ) → On l u v → ((u ≤ x) × (y ≤ v))

pub record Corner (l : Line) (x y : ℕ) : Type 0 where
  pub left : x < l.size.columns
  pub low : y < l.size.rows
  pub ahead : Ahead l x y

pub record First (l : Line) (x y : ℕ) : Type 0 where
  pub on : On l x y
  pub ahead : Ahead l x y

abbrev pub Empty : Line → Type 0
Empty l = (x y : ℕ) → On l x y → ⊥

-- the one pixel of the line whose mark says that it is missing, if exactly one is
abbrev pub missing : Line → List ℕ → Option Pixel
missing l marks =
    alone l.size.columns l.size.rows (λ c. in_bin l.size.columns l.size.rows (direction_of l.place) c l.bin && slice_index marks c == 0)
