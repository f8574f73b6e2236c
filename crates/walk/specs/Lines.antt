-- The line of a bin. Its pixels are known by x, their columns to the right edge, and y, their rows from the top, or from the
-- bottom where the direction goes left. Then the bin of a pixel is x·q + y·|p|.
use Rattle.std.specs.Prelude.{◌≡◌, ℕ, ◌+◌, ◌-◌, ◌*◌, ◌<◌, ◌≤◌}
use Rattle.mojette.specs.Bounds.{most_side, most_step}

-- Where u·q = v·s, a u below s is 0, and a v below q is 0.
abbrev pub Coprime : ℕ → ℕ → Type 0
Coprime s q = (u v : ℕ) → u * q ≡ v * s → ((u < s → u ≡ 0) × (v < q → v ≡ 0))

-- a tile of P by Q pixels, a direction with q and |p| = s, and a bin of it
pub record OnTile (P Q q s bin : ℕ) : Type 0 where
  pub some_columns : 1 ≤ P
  pub few_columns : P ≤ most_side
  pub some_rows : 1 ≤ Q
  pub few_rows : Q ≤ most_side
  pub q_most : q ≤ most_step
  pub s_most : s ≤ most_step
  pub steps : 1 ≤ q + s
  pub coprime : Coprime s q
  pub inside : bin ≤ (P - 1) * q + (Q - 1) * s
