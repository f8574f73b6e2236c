-- Bins of a direction, and the positions of the bins of all places in one row.
use Rattle.std.specs.Prelude.{ℕ, zero, suc, ◌+◌, ◌-◌, ◌*◌, ◌/◌, ◌%◌, Bool, cond, List, [], ◌∷◌, ℤ, pos, ◌+ℤ◌, ◌*ℤ◌, neg_ℤ, ◌==◌, unsigned_abs}
use Rattle.std.specs.Int.{int_min}
use Rattle.mojette.specs.declared.direction.Direction.{Direction}
use Rattle.mojette.specs.declared.direction.Record.{Record}
use Rattle.mojette.specs.Directions.{equal}

-- The raw number of pixel (k, l): pixels with the same raw number lie in the same bin.
abbrev pub raw : Direction → ℕ → ℕ → ℤ
raw d k l = neg_ℤ (pos k *ℤ d.q) +ℤ (pos l *ℤ d.p)

-- m, the smallest raw number of a pixel
abbrev pub least_raw : ℕ → ℕ → Direction → ℤ
least_raw P Q d = neg_ℤ (pos (P - 1) *ℤ d.q) +ℤ (pos (Q - 1) *ℤ int_min d.p (pos 0))

-- Bin b has the pixels with this raw number.
abbrev pub raw_of : ℕ → ℕ → Direction → ℕ → ℤ
raw_of P Q d b = least_raw P Q d +ℤ pos b

-- B, how many bins a direction has
abbrev pub bins : ℕ → ℕ → Direction → ℕ
bins P Q d = (P - 1) * unsigned_abs d.q + (Q - 1) * unsigned_abs d.p + 1

-- The pixel in cell c, which is in column c mod P and row c / P, lies in bin b.
abbrev pub in_bin : ℕ → ℕ → Direction → ℕ → ℕ → Bool
in_bin P Q d c b = equal (raw d (c % P) (c / P)) (raw_of P Q d b)

abbrev pub whole : Record → Bool
whole e = e.cause == 0

-- the B of the first i places, which is the position of bin 0 of place i
abbrev pub start : ℕ → ℕ → List Record → ℕ → ℕ
start P Q es zero = 0
start P Q [] (suc i) = 0
start P Q (e ∷ es) (suc i) = bins P Q e.direction + start P Q es i

-- T, the B of all places, lost ones too
abbrev pub all_bins : ℕ → ℕ → List Record → ℕ
all_bins P Q [] = 0
all_bins P Q (e ∷ es) = bins P Q e.direction + all_bins P Q es

-- the directions of the whole places
abbrev pub whole_directions : List Record → List Direction
whole_directions [] = []
whole_directions (e ∷ es) = cond (whole e) (e.direction ∷ whole_directions es) (whole_directions es)
