-- Which meanings open serves, whatever the order of its checks.
use Rattle.std.specs.Prelude.{◌↔◌, List, map, length}
use Rattle.mojette.specs.declared.direction.Direction.{Direction}
use Rattle.mojette.specs.declared.direction.Record.{Record}
use Rattle.mojette.specs.Bounds.{most_side, most_places, OneTo}
use Rattle.mojette.specs.Directions.{LawfulDirections}
use Rattle.mojette.specs.Meaning.{Shape, Lawful}

abbrev pub directions_of : List Record → List Direction
directions_of es = map (λ e. e.direction) es

-- a size and a number of places within their bounds, and directions that are lawful, each before the next
pub record Opens (s : Shape) : Type 0 where
  pub columns : OneTo most_side s.P
  pub rows : OneTo most_side s.Q
  pub number : OneTo most_places (length s.records)
  pub directions : LawfulDirections (directions_of s.records)

-- Open finds no reason to refuse exactly these shapes.
abbrev pub OpensExactly : Type 0
OpensExactly = (s : Shape) → Lawful s ↔ Opens s
