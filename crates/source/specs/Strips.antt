-- What a strip writes and answers.
use Rattle.std.specs.Prelude.{ℕ, ◌*◌, ◌/◌, cond, List, ◌++◌, map, length, drop, count_by, Some, None, Option, ◌==◌, nat_lt, slice_index_or}
use Rattle.std.specs.List.{range_with_len}
use Rattle.samples.specs.declared.words.SumWord.{SumWord}
use Rattle.samples.specs.Words.{sum_zero}
use Rattle.mojette.specs.declared.direction.Direction.{Direction}
use Rattle.mojette.specs.Bins.{in_bin, whole}
use Rattle.mojette.specs.Faults.{Outcome, served, refuses}
use Rattle.mojette.specs.Meaning.{Meaning, shape_of, verdict}
use Rattle.mojette.specs.Refusals.{Refusal, no_such_place, lost_place, short_output}
use Rattle.source.specs.Questions.{place_at, bins_at, checked}

-- how many pixels bin b has
abbrev pub pixels_in : ℕ → ℕ → Direction → ℕ → ℕ
pixels_in P Q d b = count_by (λ c. in_bin P Q d c b) (range_with_len 0 (P * Q))

-- v divided by n, rounded down; 0 where n is 0
abbrev pub mean : ℕ → ℕ → ℕ
mean v n = cond (n == 0) 0 (v / n)

-- the sum of bin b of place i by its number of pixels
abbrev pub mean_at : Meaning SumWord → ℕ → ℕ → ℕ
mean_at m i b = mean (slice_index_or (place_at m i).sums b sum_zero).value (pixels_in m.P m.Q (place_at m i).entry.direction b)

-- B, or the first refusal: of the shape, no such place, a lost place, too few cells
abbrev pub strip_answer : Meaning SumWord → ℕ → ℕ → Outcome ℕ
strip_answer m i room =
    checked (verdict (shape_of m))
    (cond (nat_lt i (length m.places))
    (cond (whole (place_at m i).entry)
    (cond (nat_lt room (bins_at m i)) (refuses (short_output (bins_at m i))) (served (bins_at m i)))
    (refuses (lost_place (place_at m i).entry.cause)))
    (refuses no_such_place))

-- the answer of a call and the cells that it leaves
pub record Stripped : Type 0 where
  pub answer : Outcome ℕ
  pub cells : List ℕ

abbrev pub stripped : Outcome ℕ → List ℕ → Stripped
stripped a cells = record { answer = a; cells = cells }

-- B means in the first B cells, the others as they were; a refusal leaves all cells as they were.
abbrev pub strip_leaves : Meaning SumWord → ℕ → List ℕ → Outcome ℕ → Stripped
strip_leaves m i cells (served n) = stripped (served n) (map (mean_at m i) (range_with_len 0 n) ++ drop n cells)
strip_leaves m i cells (refuses r) = stripped (refuses r) cells

abbrev pub stripping : Meaning SumWord → ℕ → List ℕ → Stripped
stripping m i cells = strip_leaves m i cells (strip_answer m i (length cells))

-- the first of two refusals, if there is one
abbrev pub first_refusal : Option Refusal → Option Refusal → Option Refusal
first_refusal None later = later
first_refusal (Some r) later = Some r

-- The first refusal, none where the call is served: of the shape, no such place, a lost place, too few cells.
abbrev pub strip_refusal : Meaning SumWord → ℕ → ℕ → Option Refusal
strip_refusal m i room =
    first_refusal (verdict (shape_of m))
    (cond (nat_lt i (length m.places))
    (cond (whole (place_at m i).entry)
    (cond (nat_lt room (bins_at m i)) (Some (short_output (bins_at m i))) None)
    (Some (lost_place (place_at m i).entry.cause)))
    (Some no_such_place))
