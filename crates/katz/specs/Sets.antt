-- Sets of pixels of a tile, how they meet the bins of a direction, and the theorems on them.
use Rattle.std.specs.Prelude.{◌≡◌, ℕ, ◌+◌, ◌<◌, ◌≤◌, Bool, true, ◌||◌, ◌⊎◌, ◌↔◌, List, nat_le}
use Rattle.std.specs.List.{ContainsAt as Has, AllByRecursion}
use Rattle.mojette.specs.declared.direction.Direction.{Direction}
use Rattle.mojette.specs.Directions.{LawfulDirections, columns, rows}
use Rattle.mojette.specs.Bins.{raw}

-- The pixel in column k and row l is in the set S where S k l is true.
abbrev pub Pixels : Type 0
Pixels = ℕ → ℕ → Bool

abbrev pub Within : ℕ → ℕ → Pixels → Type 0
Within P Q S = (k l : ℕ) → S k l ≡ true → (k < P) × (l < Q)

pub record Nonempty (S : Pixels) : Type 0 where
  pub k : ℕ
  pub l : ℕ
  pub here : S k l ≡ true

-- another pixel of S in the bin of (k, l)
pub record Partner (S : Pixels) (d : Direction) (k l : ℕ) : Type 0 where
  pub k' : ℕ
  pub l' : ℕ
  pub here : S k' l' ≡ true
  pub same_bin : raw d k' l' ≡ raw d k l
  pub other : ¬ ((k' ≡ k) × (l' ≡ l))

-- no pixel of S is alone in its bin
abbrev pub Paired : Pixels → Direction → Type 0
Paired S d = (k l : ℕ) → S k l ≡ true → Partner S d k l

-- (k, l) is the only pixel of S in its bin
pub record Alone (S : Pixels) (d : Direction) (k l : ℕ) : Type 0 where
  pub here : S k l ≡ true
  pub only : (k' l' : ℕ) → S k' l' ≡ true → raw d k' l' ≡ raw d k l → (k' ≡ k) × (l' ≡ l)

abbrev pub column : ℕ → ℕ → ℕ
column k l = k

abbrev pub row : ℕ → ℕ → ℕ
row k l = l

-- two pixels of S whose columns, or rows, differ by at least n
pub record Apart (S : Pixels) (place : ℕ → ℕ → ℕ) (n : ℕ) : Type 0 where
  pub k : ℕ
  pub l : ℕ
  pub k' : ℕ
  pub l' : ℕ
  pub here : S k l ≡ true
  pub there : S k' l' ≡ true
  pub apart : place k l + n ≤ place k' l'

-- A set in which no pixel is alone in any bin reaches over C + 1 columns and R + 1 rows.
abbrev pub Spans : Type 0
Spans =
    (P Q : ℕ) (ds : List Direction) (S : Pixels) → LawfulDirections ds → Within P Q S → Nonempty S → AllByRecursion (Paired S) ds
    → Apart S column (columns ds) × Apart S row (rows ds)

-- Katz's criterion for a tile of P columns and Q rows
abbrev pub Criterion : ℕ → ℕ → List Direction → Type 0
Criterion P Q ds = (P ≤ columns ds) ⊎ (Q ≤ rows ds)

-- the test of the criterion
abbrev pub enough : ℕ → ℕ → List Direction → Bool
enough P Q ds = nat_le P (columns ds) || nat_le Q (rows ds)

-- The test passes exactly where the criterion holds.
abbrev pub Tested : Type 0
Tested = (P Q : ℕ) (ds : List Direction) → (enough P Q ds ≡ true) ↔ Criterion P Q ds

-- a pixel of S that is alone in its bin of one of the directions
pub record Peelable (ds : List Direction) (S : Pixels) : Type 0 where
  pub d : Direction
  pub k : ℕ
  pub l : ℕ
  pub listed : Has ds d
  pub alone : Alone S d k l

-- Under the criterion every nonempty set has such a pixel.
abbrev pub Peels : Type 0
Peels = (P Q : ℕ) (ds : List Direction) (S : Pixels) → LawfulDirections ds → Criterion P Q ds → Within P Q S → Nonempty S → Peelable ds S
