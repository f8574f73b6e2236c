-- The cells of a tile as a picture.
use Rattle.std.specs.Prelude.{ℕ, ◌+◌, ◌*◌, List, slice_index_or, unsigned_abs}
use Rattle.samples.specs.declared.kind.Kind.{Ghosts as Operations}
use Rattle.katz.specs.Made.{Picture, cut}

-- Cell l·P + k shows pixel (k, l); outside the tile all is zero.
abbrev pub picture_of : {S : Type 0} → Operations S → ℕ → ℕ → List S → Picture S
picture_of K P Q cells = cut K P Q (λ k l. slice_index_or cells (unsigned_abs l * P + unsigned_abs k) K.zero)
