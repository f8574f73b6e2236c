-- Columns as they come along the bins.
use Rattle.std.specs.Prelude.{◌≡◌, ℕ, ◌+◌, ◌*◌, ◌<◌, ◌≤◌, nat_eq}
use Rattle.peeling.specs.Counting.{number}
use Rattle.walk.specs.declared.columns.Columns.{Columns}

-- how many of P columns, q bins apart and the first of them at `first`, are at bin b
abbrev pub columns_at : ℕ → ℕ → ℕ → ℕ → ℕ
columns_at P q first b = number P (λ x. nat_eq (first + x * q) b)

-- Of these columns, number `j` is the first that is not before bin b, and it is the next to come.
pub record Coming (P q first b : ℕ) (x : Columns) : Type 0 where
  pub step : x.q ≡ q
  pub end : x.end ≡ first + P * q
  pub j : ℕ
  pub next : x.next ≡ first + j * q
  pub past : (k : ℕ) → k < j → first + k * q < b
  pub ahead : (k : ℕ) → k < P → j ≤ k → b ≤ first + k * q

-- At bin b there are n of them, and then the others are to come.
abbrev pub Passes : Columns → ℕ → ℕ → Columns → Type 0
Passes x b n y = (P q first : ℕ) → Coming P q first b x → ((n ≡ columns_at P q first b) × Coming P q first (b + 1) y)
