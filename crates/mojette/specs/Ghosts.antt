-- Ghosts: tiles that are not zero although all their sums are.
use Rattle.std.specs.Prelude.{◌≡◌, ℕ, ◌*◌, ◌<◌, List, length, slice_index_or}
use Rattle.std.specs.List.{AllByRecursion}
use Rattle.samples.specs.declared.kind.Kind.{Ghosts as Operations}
use Rattle.mojette.specs.declared.direction.Direction.{Direction}
use Rattle.mojette.specs.Bins.{bins}
use Rattle.mojette.specs.Transform.{bin_sum}

module _ {S : Type 0} (K : Operations S) where
  -- all sums of a tile are zero, in every bin of every direction
  abbrev pub Vanishes : ℕ → ℕ → List Direction → List S → Type 0
  Vanishes P Q ds tile = AllByRecursion (λ d. (b : ℕ) → b < bins P Q d → bin_sum K P Q tile d b ≡ K.zero) ds

  pub record Ghost (P Q : ℕ) (ds : List Direction) (tile : List S) : Type 0 where
    pub size : length tile ≡ P * Q
    pub vanishes : Vanishes P Q ds tile
    pub nonzero : (c : ℕ) × (c < P * Q) × (¬ (slice_index_or tile c K.zero ≡ K.zero))
