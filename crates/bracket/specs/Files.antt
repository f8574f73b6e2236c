-- What a file that was read means, and what is told of a text that is no file.
use Rattle.std.specs.Prelude.{ℕ, List, Ok, Err, Result}
use Rattle.samples.specs.declared.coded.Coded.{Ghosts as Codes}
use Rattle.samples.specs.declared.kind.Kind.{Ghosts as Operations}
use Rattle.mojette.specs.declared.fault.Fault.{Fault}
use Rattle.mojette.specs.Faults.{refusal_of, Outcome, served, refuses}
use Rattle.mojette.specs.Meaning.{Meaning}
use Rattle.mojette.specs.Refusals.{unreadable_text}
use Rattle.format.specs.Format.{Read, file, refused}
use Rattle.bracket.specs.declared.bracket_file.BracketFile.{BracketFile}
use Rattle.bracket.specs.Lines.{held_lines}
use Rattle.bracket.specs.Means.{meaning_from}

module _ {S : Type 0} {C : Codes S} {K : Operations S} where
  -- the text of a file
  abbrev pub text_of : BracketFile S C K → List ℕ
  text_of f = f.text.now

  -- what a file means, read off what it holds: its text, with the size and the lines that were found in it
  abbrev pub file_meaning : BracketFile S C K → Meaning S
  file_meaning f = meaning_from K C (text_of f) f.size (held_lines f.lines)

  -- what a call that reads a text answered
  abbrev pub made : Result (BracketFile S C K) Fault → Outcome (Meaning S)
  made (Ok f) = served (file_meaning f)
  made (Err e) = refuses (refusal_of e)

-- what is answered for a text: the meaning of a file, else where and why it is none
abbrev pub asked_file : {S : Type 0} → Read S → Outcome (Meaning S)
asked_file (file m) = served m
asked_file (refused line byte why) = refuses (unreadable_text line byte why)
