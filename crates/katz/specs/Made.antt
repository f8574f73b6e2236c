-- The ghost that is made of a spark, direction by direction.
use Rattle.std.specs.Prelude.{◌≡◌, ℕ, suc, ◌+◌, ◌*◌, ◌/◌, ◌%◌, Bool, false, cond, ◌&&◌, List, [], ◌∷◌, map, ℤ, pos, negsuc, ◌-ℤ◌, nat_lt, slice_index_or}
use Rattle.std.specs.List.{range_with_len}
use Rattle.samples.specs.declared.kind.Kind.{Ghosts as Operations}
use Rattle.mojette.specs.declared.direction.Direction.{Direction}
use Rattle.mojette.specs.Directions.{equal, LawfulDirections}
use Rattle.katz.specs.Sets.{Criterion}
use Rattle.katz.specs.Ghosts.{Ghost}

-- how far a direction goes left, and how far all of them do
abbrev pub left : ℤ → ℕ
left (pos p) = 0
left (negsuc p) = suc p

-- k₀
abbrev pub leftward : List Direction → ℕ
leftward [] = 0
leftward (d ∷ ds) = left d.p + leftward ds

-- from 0 to n - 1
abbrev pub below : ℕ → ℤ → Bool
below n (pos k) = nat_lt k n
below n (negsuc k) = false

-- a sample for each column k and row l of the plane
abbrev pub Picture : Type 0 → Type 0
Picture S = ℤ → ℤ → S

-- Cell l·P + k holds the sample of pixel (k, l).
abbrev pub cell_of : {S : Type 0} → ℕ → Picture S → ℕ → S
cell_of P f c = f (pos (c % P)) (pos (c / P))

module _ {S : Type 0} (K : Operations S) where
  abbrev pub minus : S → S → S
  minus a b = K.plus a (K.inverse b)

  -- zero outside the tile
  abbrev pub cut : ℕ → ℕ → Picture S → Picture S
  cut P Q f k l = cond (below P k && below Q l) (f k l) K.zero

  -- zero but for the spark at pixel (k₀, 0)
  abbrev pub start : ℕ → Picture S
  start k₀ k l = cond (equal k (pos k₀) && equal l (pos 0)) K.spark K.zero

  -- new(k, l) = old(k, l) - old(k - p, l - q) in the tile; outside it all is read as zero
  abbrev pub step : ℕ → ℕ → Direction → Picture S → Picture S
  step P Q d old = cut P Q (λ k l. minus (old k l) (old (k -ℤ d.p) (l -ℤ d.q)))

  abbrev pub steps : ℕ → ℕ → List Direction → Picture S → Picture S
  steps P Q [] old = old
  steps P Q (d ∷ ds) old = steps P Q ds (step P Q d old)

  abbrev pub made : ℕ → ℕ → List Direction → Picture S
  made P Q ds = steps P Q ds (start (leftward ds))

  abbrev pub tile_of : ℕ → ℕ → Picture S → List S
  tile_of P Q f = map (cell_of P f) (range_with_len 0 (P * Q))

  abbrev pub ghost_tile : ℕ → ℕ → List Direction → List S
  ghost_tile P Q ds = tile_of P Q (made P Q ds)

  -- The tile is a ghost, and pixel (k₀, 0) is the spark.
  pub record MakesAGhost (P Q : ℕ) (ds : List Direction) : Type 0 where
    pub ghost : Ghost K P Q ds (ghost_tile P Q ds)
    pub spark_stays : slice_index_or (ghost_tile P Q ds) (leftward ds) K.zero ≡ K.spark

  -- Where the criterion fails, so it is.
  abbrev pub GhostIsMade : Type 0
  GhostIsMade = (P Q : ℕ) (ds : List Direction) → LawfulDirections ds → ¬ (Criterion P Q ds) → MakesAGhost P Q ds
