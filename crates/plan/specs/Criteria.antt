-- Katz's criterion of a tile's shape.
use Rattle.std.specs.Prelude.{◌≡◌, Bool, false, ◌↔◌, List}
use Rattle.samples.specs.declared.kind.Kind.{Ghosts as Operations}
use Rattle.mojette.specs.declared.direction.Direction.{Direction}
use Rattle.mojette.specs.Bins.{whole_directions}
use Rattle.mojette.specs.Directions.{columns, rows}
use Rattle.mojette.specs.Meaning.{Shape}
use Rattle.katz.specs.Ghosts.{Ghost}
use Rattle.katz.specs.Sets.{enough}
use Rattle.plan.specs.declared.criterion.Criterion.{Criterion}

-- the directions of the whole places
abbrev pub whole_of : Shape → List Direction
whole_of s = whole_directions s.records

-- C, R, and whether Katz's criterion holds
abbrev pub criterion_of : Shape → Criterion
criterion_of s = record {
  columns = columns (whole_of s);
  rows = rows (whole_of s);
  enough = enough s.P s.Q (whole_of s);
}

-- The answer is no exactly when the whole places have a ghost.
abbrev pub KatzHolds : {S : Type 0} → Operations S → Shape → Bool → Type 0
KatzHolds {S} K s enough = (enough ≡ false) ↔ ((tile : List S) × Ghost K s.P s.Q (whole_of s) tile)
