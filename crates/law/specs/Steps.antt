-- What each call on a tile makes of its stage and its tables, and what it answers.
use Rattle.std.specs.Prelude.{ℕ, zero, suc, ◌+◌, ◌-◌, Bool, cond, not, ◌&&◌, List, length, Some, None, Option, ◌==◌, nat_le, nat_lt, slice_index_or, slice_set}
use Rattle.samples.specs.declared.kind.Kind.{Ghosts as Operations}
use Rattle.mojette.specs.declared.direction.Record.{Record}
use Rattle.mojette.specs.Bins.{bins, whole, start, whole_directions}
use Rattle.mojette.specs.Directions.{equal, columns, rows}
use Rattle.mojette.specs.Meaning.{Shape, Place, Meaning, pixels_of, bins_of}
pub use Rattle.mojette.specs.Meaning.{no_record, no_place}
use Rattle.mojette.specs.Refusals.{Refusal, short_table, no_place_to_load, other_source, unloaded_places, ghost_left, nothing_waits, wrong_cell, wrong_grant, missing_pixels, outstanding_grants, leftover_sum}
use Rattle.katz.specs.Made.{made, cell_of}
use Rattle.katz.specs.Sets.{enough}
use Rattle.peeling.specs.declared.state.State.{State}
use Rattle.peeling.specs.Counting.{number, least}
use Rattle.peeling.specs.Steps.{World, filled, open_in, Taken, none_waits, bad_cell, grants, take_answers, Finished, pixels_missing, grants_out, left_over, finish_answers}
use Rattle.peeling.specs.Steps.{served as all_zero}
use Rattle.peeling.specs.Steps.{seal as peel_seal, take as peel_take, settle as peel_settle, give_back as peel_give_back}
use Rattle.law.specs.Positions.{incidence, place_at, bin_at}

-- A tile is loading, with so many places loaded; then peeling; then finished.
pub data Stage : Type 0 where
  loading : ℕ → Stage
  peeling : State → Stage
  finished : Stage

pub record Tables (S : Type 0) : Type 0 where
  pub picture : List S
  pub marks : List ℕ
  pub sums : List S
  pub counts : List ℕ
  pub queue : List ℕ

-- Served with nothing to tell, with a grant, or with the cell of a pixel or none and the number of pixels left; or refused.
pub data Answer : Type 0 where
  done : Answer
  granted : ℕ → Answer
  settled : Option ℕ → ℕ → Answer
  refused : Refusal → Answer

-- What a call leaves, and what it answers.
pub record Outcome (S : Type 0) : Type 0 where
  pub stage : Stage
  pub tables : Tables S
  pub answer : Answer

abbrev pub served : {S : Type 0} → Stage → Tables S → Answer → Outcome S
served stage t a = record { stage = stage; tables = t; answer = a }

-- A refused call leaves all as it was.
abbrev pub refuse : {S : Type 0} → Stage → Tables S → Refusal → Outcome S
refuse stage t r = record { stage = stage; tables = t; answer = refused r }

-- The state of a tile that is peeled, with its tables, and back.
abbrev pub world_of : {S : Type 0} → State → Tables S → World S
world_of s t = record { state = s; picture = t.picture; marks = t.marks; sums = t.sums; counts = t.counts; queue = t.queue }

abbrev pub tables_of : {S : Type 0} → World S → Tables S
tables_of w = record { picture = w.picture; marks = w.marks; sums = w.sums; counts = w.counts; queue = w.queue }

abbrev pub peels_on : {S : Type 0} → World S → Answer → Outcome S
peels_on w a = served (peeling w.state) (tables_of w) a

-- Refusal 5: a table is too short -------------------------------------------------------------------------------

-- the number of the first table that is too short; 0 if none is
unfoldable pub short : {S : Type 0} → Shape → Tables S → ℕ
short shape t =
    cond (nat_lt (length t.picture) (pixels_of shape)) 1
    (cond (nat_lt (length t.marks) (pixels_of shape)) 2
    (cond (nat_lt (length t.sums) (bins_of shape)) 3
    (cond (nat_lt (length t.counts) (bins_of shape)) 4
    (cond (nat_lt (length t.queue) (bins_of shape)) 5 0))))

unfoldable pub short_sums : {S : Type 0} → Shape → Tables S → ℕ
short_sums shape t = cond (nat_lt (length t.sums) (bins_of shape)) 3 0

unfoldable pub short_queue : {S : Type 0} → Shape → Tables S → ℕ
short_queue shape t = cond (nat_lt (length t.queue) (bins_of shape)) 5 0

-- a call on tables of which table k is the first that is too short
abbrev pub checked : {S : Type 0} → ℕ → Stage → Tables S → Outcome S → Outcome S
checked zero stage t outcome = outcome
checked (suc k) stage t outcome = refuse stage t (short_table (suc k))

-- Load ----------------------------------------------------------------------------------------------------------

abbrev pub same_record : Record → Record → Bool
same_record e f = equal e.direction.p f.direction.p && (equal e.direction.q f.direction.q && e.cause == f.cause)

-- The source has the shape's P, Q and N, and the shape's direction and cause at place n.
unfoldable pub fits : {S : Type 0} → Shape → Meaning S → ℕ → Bool
fits shape m n =
    (shape.P == m.P)
    && (shape.Q == m.Q
    && (length shape.records == length m.places
    && same_record (slice_index_or shape.records n no_record) (slice_index_or m.places n no_place).entry))

-- xs with f i in each cell from + i, for i below n
unfoldable pub written : {X : Type 0} → ℕ → ℕ → (ℕ → X) → List X → List X
written from zero f xs = xs
written from (suc n) f xs = slice_set (written from n f xs) (from + n) (f n)

-- C and R: the |p| and the q of all whole places
abbrev pub C : Shape → ℕ
C shape = columns (whole_directions shape.records)

abbrev pub R : Shape → ℕ
R shape = rows (whole_directions shape.records)

-- Katz's criterion
abbrev pub criterion : Shape → Bool
criterion shape = enough shape.P shape.Q (whole_directions shape.records)

-- the peeling state before it is set up
abbrev pub blank : State
blank = record { head = 0; waiting = 0; out = 0; left = 0; settled = 0 }

module _ {S : Type 0} (K : Operations S) (shape : Shape) where
  -- the sums with place n written at its positions: the source's bins, or zeros for a lost place
  unfoldable pub with_place : Place S → ℕ → List S → List S
  with_place x n sums =
      written (start shape.P shape.Q shape.records n) (bins shape.P shape.Q x.entry.direction)
      (λ b. cond (whole x.entry) (slice_index_or x.sums b K.zero) K.zero) sums

  unfoldable pub load : Meaning S → ℕ → Tables S → Outcome S
  load m n t =
      checked (short_sums shape t) (loading n) t
      (cond (nat_le (length shape.records) n) (refuse (loading n) t no_place_to_load)
      (cond (not (fits shape m n)) (refuse (loading n) t other_source)
      (served (loading (n + 1)) (record {
        picture = t.picture;
        marks = t.marks;
        sums = with_place (slice_index_or m.places n no_place) n t.sums;
        counts = t.counts;
        queue = t.queue;
      }) done)))

  -- Seal --------------------------------------------------------------------------------------------------------

  -- the ghost in the picture
  unfoldable pub ghosted : List S → List S
  ghosted picture = filled (pixels_of shape) (cell_of shape.P (made K shape.P shape.Q (whole_directions shape.records))) picture

  abbrev pub with_ghost : Tables S → Tables S
  with_ghost t = record { picture = ghosted t.picture; marks = t.marks; sums = t.sums; counts = t.counts; queue = t.queue }

  unfoldable pub seal : ℕ → Tables S → Outcome S
  seal n t =
      checked (short shape t) (loading n) t
      (cond (nat_lt n (length shape.records)) (refuse (loading n) t (unloaded_places (length shape.records - n)))
      (cond (not (criterion shape)) (refuse (loading n) (with_ghost t) (ghost_left (C shape) (R shape)))
      (peels_on (peel_seal K (incidence shape) (world_of blank t)) done)))

  -- Take, settle, give back -------------------------------------------------------------------------------------

  abbrev pub take_outcome : State → Tables S → Taken → Outcome S
  take_outcome s t none_waits = refuse (peeling s) t nothing_waits
  take_outcome s t (bad_cell i) = refuse (peeling s) t (wrong_cell i)
  take_outcome s t (grants b) = peels_on (peel_take K (incidence shape) (world_of s t)) (granted b)

  unfoldable pub take : State → Tables S → Outcome S
  take s t = checked (short_queue shape t) (peeling s) t (take_outcome s t (take_answers (bins_of shape) s t.queue))

  -- the cell of the pixel that a settle of position b finds
  unfoldable pub finds : ℕ → World S → Option ℕ
  finds b w =
      cond (number (pixels_of shape) (open_in (incidence shape) w b) == 1)
      (Some (least (pixels_of shape) (open_in (incidence shape) w b))) None

  unfoldable pub settle : ℕ → State → Tables S → Outcome S
  settle b s t =
      checked (short shape t) (peeling s) t
      (cond (nat_le (bins_of shape) b) (refuse (peeling s) t wrong_grant)
      (peels_on (peel_settle K (incidence shape) b (world_of s t))
      (settled (finds b (world_of s t)) (peel_settle K (incidence shape) b (world_of s t)).state.left)))

  unfoldable pub give_back : ℕ → State → Tables S → Outcome S
  give_back b s t =
      checked (short_queue shape t) (peeling s) t
      (cond (nat_le (bins_of shape) b) (refuse (peeling s) t wrong_grant)
      (peels_on (peel_give_back K (incidence shape) b (world_of s t)) done))

  -- Finish ------------------------------------------------------------------------------------------------------

  abbrev pub finish_outcome : State → Tables S → Finished → Outcome S
  finish_outcome s t (pixels_missing n) = refuse (peeling s) t (missing_pixels n)
  finish_outcome s t (grants_out n) = refuse (peeling s) t (outstanding_grants n)
  finish_outcome s t (left_over x) =
      refuse (peeling s) t (leftover_sum (place_at shape.P shape.Q shape.records x) (bin_at shape.P shape.Q shape.records x))
  finish_outcome s t all_zero = served finished t done

  unfoldable pub finish : State → Tables S → Outcome S
  finish s t = checked (short_sums shape t) (peeling s) t (finish_outcome s t (finish_answers K (bins_of shape) s t.sums))
