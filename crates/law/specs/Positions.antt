-- The bins of all places in one row: which place and bin a position is, and which pixels lie there.
use Rattle.std.specs.Prelude.{◌≡◌, ℕ, suc, ◌-◌, Bool, true, false, cond, ◌&&◌, List, [], ◌∷◌, nat_lt, slice_index_or}
use Rattle.std.proofs.Math.Path.{refl}
use Rattle.std.proofs.lemmas.Bool.{true≢false}
use Rattle.mojette.specs.declared.direction.Record.{Record}
use Rattle.mojette.specs.Bins.{bins, in_bin, whole}
use Rattle.mojette.specs.Meaning.{Shape, Place, pixels_of, bins_of}
use Rattle.peeling.specs.Incidence.{Incidence}

module _ (P Q : ℕ) where
  -- position x belongs to a whole place
  unfoldable pub whole_at : List Record → ℕ → Bool
  whole_at [] x = false
  whole_at (e ∷ es) x = cond (nat_lt x (bins P Q e.direction)) (whole e) (whole_at es (x - bins P Q e.direction))

  -- the pixel in cell c lies in the bin at position x, which belongs to a whole place
  unfoldable pub lies_at : List Record → ℕ → ℕ → Bool
  lies_at [] c x = false
  lies_at (e ∷ es) c x =
      cond (nat_lt x (bins P Q e.direction)) (whole e && in_bin P Q e.direction c x) (lies_at es c (x - bins P Q e.direction))

  -- the place, and the bin of it, at position x
  unfoldable pub place_at : List Record → ℕ → ℕ
  place_at [] x = 0
  place_at (e ∷ es) x = cond (nat_lt x (bins P Q e.direction)) 0 (suc (place_at es (x - bins P Q e.direction)))

  unfoldable pub bin_at : List Record → ℕ → ℕ
  bin_at [] x = x
  bin_at (e ∷ es) x = cond (nat_lt x (bins P Q e.direction)) x (bin_at es (x - bins P Q e.direction))

  -- the source's sum at position x
  unfoldable pub sum_at : {S : Type 0} → S → List (Place S) → ℕ → S
  sum_at z [] x = z
  sum_at z (a ∷ rest) x =
      cond (nat_lt x (bins P Q a.entry.direction)) (slice_index_or a.sums x z) (sum_at z rest (x - bins P Q a.entry.direction))

  -- no pixel lies in the bins of a lost place
  pub none_lies : (es : List Record) (c x : ℕ) → whole_at es x ≡ false → lies_at es c x ≡ false
  unfolding whole_at lies_at
  none_lies [] c x e = refl
  none_lies (a ∷ rest) c x e = go (nat_lt x (bins P Q a.direction)) (whole a) (none_lies rest c (x - bins P Q a.direction)) e
    where
      go :
          (t u : Bool) → (whole_at rest (x - bins P Q a.direction) ≡ false → lies_at rest c (x - bins P Q a.direction) ≡ false)
          → cond t u (whole_at rest (x - bins P Q a.direction)) ≡ false
          → cond t (u && in_bin P Q a.direction c x) (lies_at rest c (x - bins P Q a.direction)) ≡ false
      go true false later e = refl
      go true true later e = absurd (true≢false e)
      go false u later e = later e

-- The pixels and positions of a shape.
abbrev pub incidence : Shape → Incidence
incidence shape =
    record {
      pixels = pixels_of shape;
      bins = bins_of shape;
      whole = whole_at shape.P shape.Q shape.records;
      lies = lies_at shape.P shape.Q shape.records;
      lost_empty = λ c x e. none_lies shape.P shape.Q shape.records c x e;
    }
