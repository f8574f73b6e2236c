-- The number of each refusal, and the three values that it tells.
use Rattle.std.specs.Prelude.{ℕ, Some, None, Ok, Err, Option, Result}
use Rattle.mojette.specs.declared.fault.Fault.{Fault}
use Rattle.mojette.specs.declared.fault.Fault.TheVariants.{Size, PlaceCount, Unlawful, Disorder, ShortTable, AllLoaded, OtherSource, NotLoaded, Ghost, NoneWaits, BadCell, BadGrant, PixelsMissing, GrantsOut, LeftOver, NoPlace, Lost, NoBin, RunLength, NoFile, ShortOutput, Oversize}
use Rattle.mojette.specs.declared.fault.Reason.{Reason}
use Rattle.mojette.specs.declared.fault.Reason.TheVariants as reasons
use Rattle.mojette.specs.declared.fault.Table.{Table}
use Rattle.mojette.specs.declared.fault.Table.TheVariants.{Picture, Marks, Sums, Counts, Queue}
use Rattle.mojette.specs.Refusals.{Refusal, unlawful_size, unlawful_place_count, unlawful_direction, disordered_direction, short_table, no_place_to_load, other_source, unloaded_places, ghost_left, nothing_waits, wrong_cell, wrong_grant, missing_pixels, outstanding_grants, leftover_sum, no_such_place, lost_place, no_such_bin, wrong_run_length, unreadable_text, short_output, oversize}

abbrev pub table_number : Table → ℕ
table_number Picture = 1
table_number Marks = 2
table_number Sums = 3
table_number Counts = 4
table_number Queue = 5

abbrev pub reason_number : Reason → ℕ
reason_number reasons.Token = 0
reason_number reasons.Size = 1
reason_number reasons.Count = 2
reason_number reasons.Direction = 3
reason_number reasons.Order = 4

abbrev pub refusal_of : Fault → Refusal
refusal_of Size = unlawful_size
refusal_of PlaceCount = unlawful_place_count
refusal_of (Unlawful i) = unlawful_direction i
refusal_of (Disorder i) = disordered_direction i
refusal_of (ShortTable t) = short_table (table_number t)
refusal_of AllLoaded = no_place_to_load
refusal_of OtherSource = other_source
refusal_of (NotLoaded n) = unloaded_places n
refusal_of (Ghost c r) = ghost_left c r
refusal_of NoneWaits = nothing_waits
refusal_of (BadCell i) = wrong_cell i
refusal_of BadGrant = wrong_grant
refusal_of (PixelsMissing n) = missing_pixels n
refusal_of (GrantsOut n) = outstanding_grants n
refusal_of (LeftOver i b) = leftover_sum i b
refusal_of NoPlace = no_such_place
refusal_of (Lost c) = lost_place c
refusal_of NoBin = no_such_bin
refusal_of (RunLength n) = wrong_run_length n
refusal_of (NoFile f) = unreadable_text f.line f.text.byte (reason_number f.text.reason)
refusal_of (ShortOutput n) = short_output n
refusal_of Oversize = oversize

-- the refusal that a call answered, if it refused
abbrev pub refused : {A : Type 0} → Result A Fault → Option Refusal
refused (Ok a) = None
refused (Err e) = Some (refusal_of e)

-- what a call answered: a value, or a refusal
pub data Outcome (A : Type 0) : Type 0 where
  served : A → Outcome A
  refuses : Refusal → Outcome A

abbrev pub outcome : {A : Type 0} → Result A Fault → Outcome A
outcome (Ok a) = served a
outcome (Err e) = refuses (refusal_of e)
