-- Writing text into a table of bytes.
use Rattle.std.specs.Prelude.{ℕ, ◌+◌, ◌*◌, cond, List, ◌++◌, length, take, drop, nat_lt}
use Rattle.mojette.specs.Faults.{Outcome, served, refuses}
use Rattle.mojette.specs.Refusals.{short_table, short_output}

-- out with a text in its cells from `from` on, and nothing else changed
unfoldable pub spliced : ℕ → List ℕ → List ℕ → List ℕ
spliced from text out = take from out ++ (text ++ drop (from + length text) out)

-- A call that writes a text into the first cells of out: its answer, and what it leaves. Where it is too long, nothing is written.
abbrev pub filling : List ℕ → List ℕ → Outcome ℕ × List ℕ
filling text out =
    cond (nat_lt (length out) (length text))
    (refuses (short_output (length text)), out)
    (served (length text), text ++ drop (length text) out)

-- A call that writes the listing of a tile: it looks first whether the picture has all pixels.
abbrev pub listing : {S : Type 0} → ℕ → ℕ → List S → List ℕ → List ℕ → Outcome ℕ × List ℕ
listing P Q picture text out =
    cond (nat_lt (length picture) (P * Q)) (refuses (short_table 1), out) (filling text out)

-- no listing of a tile has more bytes: 64 rows of 64 codes of 12 digits, with 1,390 bytes for the other lines
abbrev pub most_listing : ℕ
most_listing = 55022

-- no listing of a refusal has more bytes: four numbers of 20 digits
abbrev pub most_refusal : ℕ
most_refusal = 94
