-- Pixels and bins: which pixel lies in which bin, and when a tile has the sums of a source.
use Rattle.std.specs.Prelude.{◌≡◌, ℕ, ◌<◌, Bool, true, false, cond, ◌&&◌, List, length, slice_index_or}
use Rattle.samples.specs.declared.kind.Kind.{Ghosts as Operations}
use Rattle.samples.specs.Sums.{sum_below}
use Rattle.peeling.specs.Counting.{number}

-- A tile has the pixels 0 .. pixels - 1; the bins of all its places have the positions 0 .. bins - 1.
-- `whole b`: bin b belongs to a whole place. `lies c b`: pixel c lies in bin b, which belongs to a whole place.
pub record Incidence : Type 0 where
  pub pixels : ℕ
  pub bins : ℕ
  pub whole : ℕ → Bool
  pub lies : ℕ → ℕ → Bool
  pub lost_empty : (c b : ℕ) → whole b ≡ false → lies c b ≡ false

-- how many pixels of the set S lie in bin b
abbrev pub pixels_in : Incidence → ℕ → (ℕ → Bool) → ℕ
pixels_in I b S = number I.pixels (λ c. I.lies c b && S c)

-- Every set of pixels that is not empty has a bin in which exactly one pixel of the set lies.
abbrev pub OneMissing : Incidence → Type 0
OneMissing I = (S : ℕ → Bool) (c : ℕ) → c < I.pixels → S c ≡ true →
    (b : ℕ) × (b < I.bins) × (pixels_in I b S ≡ 1)

-- the sum of the samples of a tile t over the pixels of bin b
abbrev pub bin_sum : {A : Type 0} → Operations A → Incidence → List A → ℕ → A
bin_sum K I t b = sum_below K I.pixels (λ c. cond (I.lies c b) (slice_index_or t c K.zero) K.zero)

-- A tile agrees with a source: in every whole place its sums are the source's.
pub record Agrees {A : Type 0} (K : Operations A) (I : Incidence) (source : ℕ → A) (t : List A) : Type 0 where
  pub size : length t ≡ I.pixels
  pub sums : (b : ℕ) → b < I.bins → I.whole b ≡ true → bin_sum K I t b ≡ source b

-- what loading leaves at position b: the source's sum, and zero in a lost place
abbrev pub loaded : {A : Type 0} → Operations A → Incidence → (ℕ → A) → ℕ → A
loaded K I source b = cond (I.whole b) (source b) K.zero
