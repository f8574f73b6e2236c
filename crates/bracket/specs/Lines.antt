-- What the lines of a file stand for, in its text.
use Rattle.std.specs.Prelude.{ℕ, Bool, true, false, List, [], take, codes as text, Option}
use Rattle.std.specs.NonZero.{non_zero_u8_get}
use Rattle.samples.specs.declared.coded.Coded.{Ghosts as Codes}
use Rattle.samples.specs.declared.kind.Kind.{Ghosts as Operations}
use Rattle.mojette.specs.declared.direction.Direction.{Direction}
use Rattle.mojette.specs.declared.direction.Record.{Record}
use Rattle.mojette.specs.declared.size.Size.{Size}
use Rattle.mojette.specs.Bins.{bins}
use Rattle.mojette.specs.Meaning.{Place}
use Rattle.format.specs.Format.{line_word, is_first}
use Rattle.format.specs.Readers.{Reader, ◌>>◌, expect, accept}
use Rattle.bracket.specs.declared.line.Held.{Held}
use Rattle.bracket.specs.declared.line.Held.TheVariants as held
use Rattle.bracket.specs.declared.line.Holding.{Holding}
use Rattle.bracket.specs.declared.line.Holding.TheVariants.{Bins, Lost}
use Rattle.bracket.specs.declared.line.Line.{Line}
use Rattle.bracket.specs.declared.line.Lines.{Lines}
use Rattle.bracket.specs.declared.line.Start.{Start}
use Rattle.bracket.specs.declared.line.Start.TheVariants.{Dir, End}
use Rattle.bracket.specs.Found.{found_from}

-- whether `bins` stands there, and not `lost`
abbrev pub is_bins : Holding → Bool
is_bins Bins = true
is_bins Lost = false

-- whether a line begins with `(dir`, and not with `(end`
abbrev pub is_dir : Start → Bool
is_dir Dir = true
is_dir End = false

-- how a line after the first begins: whether with `(dir`
abbrev pub start_reader : ℕ → Option Direction → Bool → Reader Bool
start_reader n last room = do
  expect n (text "(")
  accept n (line_word (is_first last) room)

abbrev pub cause_of : Held → ℕ
cause_of (held.Bins o) = 0
cause_of (held.Lost c) = non_zero_u8_get c

abbrev pub record_of : Line → Record
record_of x = record { direction = x.direction; cause = cause_of x.held }

-- the lines of the places, in a list
abbrev pub held_lines : Lines → List Line
held_lines x = take x.count x.table

module _ {S : Type 0} (K : Operations S) (C : Codes S) (t : List ℕ) where
  -- the cause, and the sums of b bins
  abbrev pub held_from : ℕ → Held → ℕ × List S
  held_from b (held.Bins o) = (0, found_from K C t o b)
  held_from b (held.Lost c) = (non_zero_u8_get c, [])

  abbrev pub place_from : Size → Line → Place S
  place_from s x = record {
    entry = record_of x;
    sums = (held_from (bins s.columns s.rows x.direction) x.held).1;
  }
