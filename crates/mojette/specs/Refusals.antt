-- Refusals by their numbers, and each by a name. docs/REFUSALS.md tells when each comes.
use Rattle.std.specs.Prelude.{ℕ}
use Rattle.mojette.specs.declared.fault.Refusal.{Refusal as Told}

abbrev pub Refusal : Type 0
Refusal = Told

abbrev pub refusal : ℕ → ℕ → ℕ → ℕ → Refusal
refusal n a b c = record { number = n; first = a; second = b; third = c }

-- a size that no tile has
abbrev pub unlawful_size : Refusal
unlawful_size = refusal 1 0 0 0

-- a number of places that no tile has
abbrev pub unlawful_place_count : Refusal
unlawful_place_count = refusal 2 0 0 0

-- the direction of place i
abbrev pub unlawful_direction : ℕ → Refusal
unlawful_direction i = refusal 3 i 0 0

-- the direction of place i, which does not come after the one before it
abbrev pub disordered_direction : ℕ → Refusal
disordered_direction i = refusal 4 i 0 0

-- the first table that is too short, by its number
abbrev pub short_table : ℕ → Refusal
short_table k = refusal 5 k 0 0

-- all places are loaded
abbrev pub no_place_to_load : Refusal
no_place_to_load = refusal 6 0 0 0

-- a source that differs from the plan
abbrev pub other_source : Refusal
other_source = refusal 7 0 0 0

-- how many places are not loaded
abbrev pub unloaded_places : ℕ → Refusal
unloaded_places n = refusal 8 n 0 0

-- Katz's criterion fails, by C and R
abbrev pub ghost_left : ℕ → ℕ → Refusal
ghost_left c r = refusal 9 c r 0

-- no position waits in the queue
abbrev pub nothing_waits : Refusal
nothing_waits = refusal 10 0 0 0

-- the cell of the queue that holds no position of the tile
abbrev pub wrong_cell : ℕ → Refusal
wrong_cell i = refusal 11 i 0 0

-- a grant of no position of the tile
abbrev pub wrong_grant : Refusal
wrong_grant = refusal 12 0 0 0

-- how many pixels are missing
abbrev pub missing_pixels : ℕ → Refusal
missing_pixels n = refusal 13 n 0 0

-- how many grants are out
abbrev pub outstanding_grants : ℕ → Refusal
outstanding_grants n = refusal 14 n 0 0

-- place i and bin b of the first sum that is not zero
abbrev pub leftover_sum : ℕ → ℕ → Refusal
leftover_sum i b = refusal 15 i b 0

-- a place that the source does not have
abbrev pub no_such_place : Refusal
no_such_place = refusal 16 0 0 0

-- a place whose projection is lost, by its cause
abbrev pub lost_place : ℕ → Refusal
lost_place c = refusal 17 c 0 0

-- a bin that the place does not have
abbrev pub no_such_bin : Refusal
no_such_bin = refusal 18 0 0 0

-- a rack's run that is not n long, as it has to be
abbrev pub wrong_run_length : ℕ → Refusal
wrong_run_length n = refusal 19 n 0 0

-- a text that is no file: the line and the byte of the wrong token, and the number of the reason
abbrev pub unreadable_text : ℕ → ℕ → ℕ → Refusal
unreadable_text line byte why = refusal 20 line byte why

-- an output that is not n long, as it has to be at least
abbrev pub short_output : ℕ → Refusal
short_output n = refusal 21 n 0 0

-- too long an input, or too many bins
abbrev pub oversize : Refusal
oversize = refusal 22 0 0 0
