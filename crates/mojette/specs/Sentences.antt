-- Each fault in a sentence, as its bytes.
use Rattle.std.specs.Prelude.{List, ℕ, ◌++◌, decimal, codes as text}
use Rattle.std.specs.Fmt.{signed_decimal}
use Rattle.mojette.specs.declared.direction.Direction.{Direction}
use Rattle.mojette.specs.declared.fault.Fault.{Fault}
use Rattle.mojette.specs.declared.fault.Fault.TheVariants.{Size, PlaceCount, Unlawful, Disorder, ShortTable, AllLoaded, OtherSource, NotLoaded, Ghost, NoneWaits, BadCell, BadGrant, PixelsMissing, GrantsOut, LeftOver, NoPlace, Lost, NoBin, RunLength, NoFile, ShortOutput, Oversize}
use Rattle.mojette.specs.declared.fault.FileFault.{FileFault}
use Rattle.mojette.specs.declared.fault.Reason.{Reason}
use Rattle.mojette.specs.declared.fault.Reason.TheVariants as reasons
use Rattle.mojette.specs.declared.fault.Table.{Table}
use Rattle.mojette.specs.declared.fault.Table.TheVariants.{Picture, Marks, Sums, Counts, Queue}

-- a direction in round brackets
abbrev pub direction_words : Direction → List ℕ
direction_words d = text "(" ++ signed_decimal d.p ++ text ", " ++ signed_decimal d.q ++ text ")"

-- what a table holds
abbrev pub table_words : Table → List ℕ
table_words Picture = text "picture"
table_words Marks = text "marks"
table_words Sums = text "sums"
table_words Counts = text "counts"
table_words Queue = text "queue"

-- what is wrong with a token
abbrev pub reason_words : Reason → List ℕ
reason_words reasons.Token = text "not what belongs there, or not well formed"
reason_words reasons.Size = text "a size outside 1 to 64"
reason_words reasons.Count = text "an end before the first place, or a place after the 16th"
reason_words reasons.Direction = text "a direction that is not lawful"
reason_words reasons.Order = text "a direction that does not come after the one before it"

-- where the wrong token of a text stands, and what is wrong with it
abbrev pub file_words : FileFault → List ℕ
file_words e =
    text "line " ++ decimal e.line
    ++ (text ", byte " ++ decimal e.text.byte
    ++ (text " of the text: " ++ reason_words e.text.reason))

-- the sentence of a fault
abbrev pub sentence : Fault → List ℕ
sentence Size = text "a tile has 1 to 64 columns and 1 to 64 rows"
sentence PlaceCount = text "a tile has 1 to 16 places"
sentence (Unlawful i) = text "place " ++ decimal i ++ text ": its direction is not lawful"
sentence (Disorder i) =
    text "place " ++ decimal i ++ text ": its direction does not come after the one before it"
sentence (ShortTable t) = text "the table for the " ++ table_words t ++ text " is too short"
sentence AllLoaded = text "all places are loaded already"
sentence OtherSource = text "the source differs from the plan in size, number of places, or this place"
sentence (NotLoaded n) = text "places not loaded yet: " ++ decimal n
sentence (Ghost c r) =
    text "too few places are whole: their steps add up to " ++ decimal c
    ++ (text " across and " ++ decimal r ++ text " down")
sentence NoneWaits = text "no position waits in the queue"
sentence (BadCell i) = text "cell " ++ decimal i ++ text " of the queue holds no position of the tile"
sentence BadGrant = text "the grant belongs to a larger tile"
sentence (PixelsMissing n) = text "pixels still missing: " ++ decimal n
sentence (GrantsOut n) = text "grants neither settled nor given back: " ++ decimal n
sentence (LeftOver i b) =
    text "the sums contradict one another, first at place " ++ decimal i ++ text ", bin " ++ decimal b
sentence NoPlace = text "the source has no such place"
sentence (Lost c) = text "the place is lost, by cause " ++ decimal c
sentence NoBin = text "the place has no such bin"
sentence (RunLength n) = text "the rack needs a run of " ++ decimal n ++ text " samples"
sentence (NoFile e) = file_words e
sentence (ShortOutput n) = text "the output must be at least " ++ decimal n ++ text " long"
sentence Oversize = text "more than 65536 bytes of text, or more than 8192 bins"
