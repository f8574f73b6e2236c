-- The laws of the bracket file.
use Rattle.std.specs.Prelude.{◌≡◌, ℕ, ◌≤◌, List}
use Rattle.std.specs.List.{AllByRecursion}
use Rattle.samples.specs.declared.coded.Coded.{Ghosts as Codes}
use Rattle.samples.specs.declared.kind.Kind.{Ghosts as Operations}
use Rattle.mojette.specs.Meaning.{Meaning, shape_of, Lawful}
use Rattle.format.specs.Format.{most_cause, read_file, file}
use Rattle.format.specs.Texts.{trimmed, file_text}
use Rattle.format.specs.Wrong.{TellsWrong}

abbrev pub Causes : {S : Type 0} → Meaning S → Type 0
Causes m = AllByRecursion (λ x. x.entry.cause ≤ most_cause) m.places

module _ {S : Type 0} (K : Operations S) (C : Codes S) where
  -- Reading the text of a lawful meaning gives it back.
  abbrev pub ReadsBack : Type 0
  ReadsBack = (m : Meaning S) → Lawful (shape_of m) → Causes m → read_file C (file_text K C m) ≡ file (trimmed K m)

  -- m is lawful and just what a file tells, and t is its text.
  pub record ToldBy (t : List ℕ) (m : Meaning S) : Type 0 where
    pub lawful : Lawful (shape_of m)
    pub causes : Causes m
    pub trim : trimmed K m ≡ m
    pub text : file_text K C m ≡ t

  -- What is read is lawful, and has that very text.
  abbrev pub WritesBack : Type 0
  WritesBack = (t : List ℕ) (m : Meaning S) → read_file C t ≡ file m → ToldBy t m

  -- A lawful meaning has one text, and all other text is refused, at its first wrong token.
  pub record OneText : Type 0 where
    pub reads_back : ReadsBack
    pub writes_back : WritesBack
    pub tells_wrong : TellsWrong C
