-- Katz's theorem, on ghosts.
use Rattle.std.specs.Prelude.{ℕ, ◌↔◌, List, map}
use Rattle.samples.specs.declared.kind.Kind.{Ghosts as Operations}
use Rattle.mojette.specs.declared.direction.Record.{Record}
use Rattle.mojette.specs.Bins.{whole_directions}
use Rattle.mojette.specs.Directions.{LawfulDirections}
pub use Rattle.mojette.specs.Ghosts.{Vanishes, Ghost}
use Rattle.katz.specs.Sets.{Criterion}

module _ {S : Type 0} (K : Operations S) where
  -- Katz's theorem: the criterion fails exactly when the directions of the whole places have a ghost.
  abbrev pub Katz : Type 0
  Katz =
      (P Q : ℕ) (es : List Record) → LawfulDirections (map (λ e. e.direction) es)
      → ((¬ (Criterion P Q (whole_directions es))) ↔ ((tile : List S) × Ghost K P Q (whole_directions es) tile))
