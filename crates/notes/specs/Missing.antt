-- Which pixels of the bins are missing, while a found pixel is taken off one bin after another.
use Rattle.std.specs.Prelude.{◌≡◌, ℕ, ◌-◌, ◌<◌, Bool, not, ◌&&◌, ◌==◌, nat_lt, List, slice_index, slice_set}
use Rattle.mojette.specs.Meaning.{Shape, pixels_of, bins_of}
use Rattle.law.specs.Positions.{incidence}
use Rattle.walk.specs.Finding.{missing_at}

-- of bin b, whether the pixel in cell c is missing
abbrev pub Missing : Type 0
Missing = ℕ → ℕ → Bool

-- each of its pixels
abbrev pub all_missing : Shape → Missing
all_missing s b c = (incidence s).lies c b

-- those whose mark says so
abbrev pub by_marks : Shape → List ℕ → Missing
by_marks s marks b c = missing_at s marks b c

-- The same of every bin and pixel of a tile.
abbrev pub Alike : Shape → Missing → Missing → Type 0
Alike s m m' = (b c : ℕ) → b < bins_of s → c < pixels_of s → m b c ≡ m' b c

-- The pixel in cell c is missing in each bin that it lies in, and in no other.
abbrev pub Misses : Shape → Missing → ℕ → Type 0
Misses s m c = (b : ℕ) → b < bins_of s → m b c ≡ (incidence s).lies c b

-- it is found of one bin
abbrev pub found_in : ℕ → ℕ → Missing → Missing
found_in at cell m b c = m b c && not (b == at && c == cell)

-- of the bins below k
abbrev pub found_below : ℕ → ℕ → Missing → Missing
found_below k cell m b c = m b c && not (c == cell && nat_lt b k)

-- of all
abbrev pub found : ℕ → Missing → Missing
found cell m b c = m b c && not (c == cell)

-- the counts, with that of bin b lowered by 1
abbrev pub one_less : ℕ → List ℕ → List ℕ
one_less b counts = slice_set counts b (slice_index counts b - 1)
