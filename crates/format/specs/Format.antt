-- What reading a text as a bracket file gives: a meaning, or the line, the byte and the reason of a refusal.
-- In every reader n is the length of the whole text.
use Rattle.std.specs.Prelude.{ℕ, zero, suc, ◌+◌, Bool, true, false, cond, ◌&&◌, List, [], ◌∷◌, length, take, ℤ, pos, negsuc, Some, None, codes as text, Option, ◌==◌, nat_le, unsigned_abs}
use Rattle.std.specs.Str.{bytes_eq}
use Rattle.samples.specs.declared.coded.Coded.{Ghosts as Codes}
use Rattle.samples.specs.Reading.{read_code}
use Rattle.mojette.specs.declared.direction.Direction.{Direction}
use Rattle.mojette.specs.Bins.{bins}
use Rattle.mojette.specs.Bounds.{most_side, most_places, most_step}
use Rattle.mojette.specs.Directions.{lawful}
use Rattle.mojette.specs.Meaning.{Place, Meaning, follows}
use Rattle.format.specs.Numbers.{numeral}
use Rattle.format.specs.Readers.{Parsed, done, fault, Reader, ◌>>=◌, ◌>>◌, yield, Worth, good, bad, accept, expect}

-- Words -----------------------------------------------------------------------------------------------------------

-- the most of a cause
abbrev pub most_cause : ℕ
most_cause = 255

-- a numeral from low to high; another numeral has the reason why, what is no numeral has reason 0
abbrev pub within : ℕ → ℕ → ℕ → Option ℤ → Worth ℕ
within low high why None = bad 0
within low high why (Some (pos v)) = cond (nat_le low v && nat_le v high) (good v) (bad why)
within low high why (Some (negsuc v)) = bad why

-- P or Q
abbrev pub size_word : List ℕ → Worth ℕ
size_word w = within 1 most_side 1 (numeral w)

abbrev pub cause_word : List ℕ → Worth ℕ
cause_word w = within 1 most_cause 0 (numeral w)

abbrev pub near : Option ℤ → Worth ℤ
near None = bad 0
near (Some z) = cond (nat_le (unsigned_abs z) most_step) (good z) (bad 3)

abbrev pub p_word : List ℕ → Worth ℤ
p_word w = near (numeral w)

abbrev pub direction_of : ℤ → ℤ → Direction
direction_of p q = record { p = p; q = q }

-- q is in range and makes a lawful direction with p, and then one after the last
abbrev pub after_last : Option Direction → ℤ → Option ℤ → Worth Direction
after_last last p None = bad 0
after_last last p (Some q) =
    cond (lawful (direction_of p q))
    (cond (follows last (direction_of p q)) (good (direction_of p q)) (bad 4))
    (bad 3)

abbrev pub q_word : Option Direction → ℤ → List ℕ → Worth Direction
q_word last p w = after_last last p (numeral w)

-- `bins` or `lost`
abbrev pub bins_word : List ℕ → Worth Bool
bins_word w = cond (bytes_eq w (text "bins")) (good true) (cond (bytes_eq w (text "lost")) (good false) (bad 0))

-- `dir` or `end`: no `end` before any `dir`, and no `dir` without room
abbrev pub line_word : Bool → Bool → List ℕ → Worth Bool
line_word first room w =
    cond (bytes_eq w (text "dir"))
    (cond room (good true) (bad 2))
    (cond (bytes_eq w (text "end")) (cond first (bad 2) (good false)) (bad 0))

-- what is there, else reason 0
abbrev pub there : {A : Type 0} → Option A → Worth A
there None = bad 0
there (Some a) = good a

abbrev pub code_word : {S : Type 0} → Codes S → List ℕ → Worth S
code_word C w = there (read_code C w)

-- Lines -----------------------------------------------------------------------------------------------------------

-- the first line, with its line end
abbrev pub head_reader : List ℕ → ℕ → Reader (ℕ × ℕ)
head_reader name n = do
  expect n (text "(")
  expect n (text "tile")
  expect n (text " ")
  expect n name
  expect n (text " ")
  P ← accept n size_word
  expect n (text " ")
  Q ← accept n size_word
  expect n (text ")")
  expect n (10 ∷ [])
  yield (P, Q)

-- p and q, each after a space
abbrev pub direction_reader : ℕ → Option Direction → Reader Direction
direction_reader n last = do
  expect n (text " ")
  p ← accept n p_word
  expect n (text " ")
  accept n (q_word last p)

-- what follows `(end`
abbrev pub end_reader : {A : Type 0} → ℕ → Reader (List A)
end_reader n = do
  expect n (text ")")
  expect n (10 ∷ [])
  expect n []
  yield []

abbrev pub is_first : Option Direction → Bool
is_first None = true
is_first (Some d) = false

module _ {S : Type 0} (C : Codes S) (n : ℕ) where
  -- b codes, each after a space
  abbrev pub codes_reader : ℕ → Reader (List S)
  codes_reader zero = yield []
  codes_reader (suc b) = do
    expect n (text " ")
    x ← accept n (code_word C)
    xs ← codes_reader b
    yield (x ∷ xs)

  -- what follows `bins` or `lost`: the cause and the sums of b bins
  abbrev pub sums_reader : ℕ → Bool → Reader (ℕ × List S)
  sums_reader b true = do
    xs ← codes_reader b
    yield (0, xs)
  sums_reader b false = do
    expect n (text " ")
    c ← accept n cause_word
    yield (c, [])

  -- what follows a direction with b bins, with the line end
  abbrev pub held_reader : ℕ → Reader (ℕ × List S)
  held_reader b = do
    expect n (text " ")
    expect n (text "(")
    how ← accept n bins_word
    y ← sums_reader b how
    expect n (text ")")
    expect n (text ")")
    expect n (10 ∷ [])
    yield y

  -- what follows `(dir`, with the line end
  abbrev pub dir_reader : ℕ → ℕ → Option Direction → Reader (Place S)
  dir_reader P Q last = do
    d ← direction_reader n last
    y ← held_reader (bins P Q d)
    yield (record { entry = record { direction = d; cause = y.0 }; sums = y.1 })

  -- the lines after the first, with room for some more places
  abbrev pub places_reader : ℕ → ℕ → Option Direction → ℕ → Reader (List (Place S))
  places_reader P Q last zero = do
    expect n (text "(")
    more ← accept n (line_word (is_first last) false)
    end_reader n
  places_reader P Q last (suc room) = do
    expect n (text "(")
    more ← accept n (line_word (is_first last) true)
    elim more [
      | true ↦ do
        x ← dir_reader P Q last
        xs ← places_reader P Q (Some x.entry.direction) room
        yield (x ∷ xs)
      | false ↦ end_reader n
    ]

  abbrev pub file_reader : Reader (Meaning S)
  file_reader = do
    v ← head_reader C.name n
    xs ← places_reader v.0 v.1 None most_places
    yield (record { P = v.0; Q = v.1; places = xs })

-- Files -----------------------------------------------------------------------------------------------------------

-- A text is a file that means something, or it is refused with a line, a byte and a reason.
pub data Read (S : Type 0) : Type 0 where
  file : Meaning S → Read S
  refused : ℕ → ℕ → ℕ → Read S

abbrev pub line_ends : List ℕ → ℕ
line_ends [] = 0
line_ends (b ∷ bs) = cond (b == 10) (suc (line_ends bs)) (line_ends bs)

abbrev pub told : {S : Type 0} → List ℕ → Parsed (Meaning S) → Read S
told t (done m bs) = file m
told t (fault byte why) = refused (1 + line_ends (take byte t)) byte why

abbrev pub read_file : {S : Type 0} → Codes S → List ℕ → Read S
read_file C t = told t (file_reader C (length t) t)
