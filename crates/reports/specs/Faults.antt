-- The fault of a refusal.
use Rattle.std.specs.Prelude.{◌≡◌, ℕ, ◌<◌, ◌^◌, Bool, cond, ◌&&◌, Some, None, Option, option_map, ◌==◌, nat_lt}
use Rattle.mojette.specs.declared.fault.Fault.{Fault}
use Rattle.mojette.specs.declared.fault.Fault.TheVariants.{Size, PlaceCount, Unlawful, Disorder, ShortTable, AllLoaded, OtherSource, NotLoaded, Ghost, NoneWaits, BadCell, BadGrant, PixelsMissing, GrantsOut, LeftOver, NoPlace, Lost, NoBin, RunLength, NoFile, ShortOutput, Oversize}
use Rattle.mojette.specs.declared.fault.Reason.{Reason}
use Rattle.mojette.specs.declared.fault.Reason.TheVariants as reasons
use Rattle.mojette.specs.declared.fault.Table.{Table}
use Rattle.mojette.specs.declared.fault.Table.TheVariants.{Picture, Marks, Sums, Counts, Queue}
use Rattle.mojette.specs.Faults.{refusal_of}
use Rattle.mojette.specs.Refusals.{Refusal}

-- the table with this number
abbrev pub table_at : ℕ → Option Table
table_at n =
    cond (n == 1) (Some Picture) (cond (n == 2) (Some Marks) (cond (n == 3) (Some Sums) (cond (n == 4) (Some Counts) (cond (n == 5) (Some Queue) None))))

-- the reason with this number
abbrev pub reason_at : ℕ → Option Reason
reason_at n =
    cond (n == 0) (Some reasons.Token) (cond (n == 1) (Some reasons.Size) (cond (n == 2) (Some reasons.Count)
    (cond (n == 3) (Some reasons.Direction) (cond (n == 4) (Some reasons.Order) None))))

-- a number below the bound
abbrev pub below : ℕ → ℕ → Option ℕ
below bound n = cond (nat_lt n bound) (Some n) None

abbrev pub file_fault : ℕ → ℕ → Reason → Fault
file_fault line byte why = NoFile (record { line = line; text = record { byte = byte; reason = why } })

-- the fault of a number, with as much of the values as it tells
abbrev pub guessed : Refusal → Option Fault
guessed r =
    cond (r.number == 1) (Some Size)
    (cond (r.number == 2) (Some PlaceCount)
    (cond (r.number == 3) (Some (Unlawful r.first))
    (cond (r.number == 4) (Some (Disorder r.first))
    (cond (r.number == 5) (option_map ShortTable (table_at r.first))
    (cond (r.number == 6) (Some AllLoaded)
    (cond (r.number == 7) (Some OtherSource)
    (cond (r.number == 8) (Some (NotLoaded r.first))
    (cond (r.number == 9) (Some (Ghost r.first r.second))
    (cond (r.number == 10) (Some NoneWaits)
    (cond (r.number == 11) (Some (BadCell r.first))
    (cond (r.number == 12) (Some BadGrant)
    (cond (r.number == 13) (option_map PixelsMissing (below (2 ^ 32) r.first))
    (cond (r.number == 14) (option_map GrantsOut (below (2 ^ 32) r.first))
    (cond (r.number == 15) (Some (LeftOver r.first r.second))
    (cond (r.number == 16) (Some NoPlace)
    (cond (r.number == 17) (option_map Lost (below (2 ^ 8) r.first))
    (cond (r.number == 18) (Some NoBin)
    (cond (r.number == 19) (Some (RunLength r.first))
    (cond (r.number == 20) (option_map (file_fault r.first r.second) (reason_at r.third))
    (cond (r.number == 21) (Some (ShortOutput r.first))
    (cond (r.number == 22) (Some Oversize) None)))))))))))))))))))))

abbrev pub same : Refusal → Refusal → Bool
same r s = r.number == s.number && (r.first == s.first && (r.second == s.second && r.third == s.third))

-- a guess, if the refusal is that of it
abbrev pub confirmed : Refusal → Option Fault → Option Fault
confirmed r None = None
confirmed r (Some e) = cond (same (refusal_of e) r) (Some e) None

-- the fault that has this refusal
abbrev pub fault_told : Refusal → Option Fault
fault_told r = confirmed r (guessed r)

-- The values of a fault are such as its case holds.
abbrev pub Fits : Fault → Type 0
Fits (PixelsMissing n) = n < 2 ^ 32
Fits (GrantsOut n) = n < 2 ^ 32
Fits (Lost c) = c < 2 ^ 8
Fits e = Unit {0}

-- Each fault is known by its refusal, and no refusal is taken for that of another fault.
pub record KnowsFaults : Type 0 where
  pub each : (e : Fault) → Fits e → fault_told (refusal_of e) ≡ Some e
  pub only : (r : Refusal) (e : Fault) → fault_told r ≡ Some e → refusal_of e ≡ r
