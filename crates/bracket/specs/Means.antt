-- What a text that is read means, by its sizes and lines.
use Rattle.std.specs.Prelude.{ℕ, ◌+◌, List, take, map, Ok, Err, Result}
use Rattle.samples.specs.declared.coded.Coded.{Ghosts as Codes}
use Rattle.samples.specs.declared.kind.Kind.{Ghosts as Operations}
use Rattle.mojette.specs.declared.fault.FileFault.{FileFault}
use Rattle.mojette.specs.declared.size.Size.{Size}
use Rattle.mojette.specs.Faults.{reason_number}
use Rattle.mojette.specs.Meaning.{Shape, Meaning}
use Rattle.format.specs.Format.{line_ends, Read, file, refused}
use Rattle.bracket.specs.declared.fault_in_text.FaultInText.{FaultInText}
use Rattle.bracket.specs.declared.line.Line.{Line}
use Rattle.bracket.specs.Lines.{record_of, place_from}

abbrev pub meaning_from : {S : Type 0} → Operations S → Codes S → List ℕ → Size → List Line → Meaning S
meaning_from K C t s lines = record { P = s.columns; Q = s.rows; places = map (place_from K C t s) lines }

abbrev pub shape_from : Size → List Line → Shape
shape_from s lines = record { P = s.columns; Q = s.rows; records = map record_of lines }

-- a text's fault, with the line of the wrong token, counted in the text
abbrev pub file_fault : FaultInText → FileFault
file_fault e = record { line = 1 + line_ends (take e.fault.byte e.text.now); text = e.fault }

-- a result of reading a whole text, as reading a file gives it
abbrev pub file_read : {A S : Type 0} → (A → Meaning S) → Result A FileFault → Read S
file_read value (Ok a) = file (value a)
file_read value (Err f) = refused f.line f.text.byte (reason_number f.text.reason)
