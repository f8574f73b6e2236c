-- The kind that a text names.
use Rattle.std.specs.Prelude.{◌≡◌, ℕ, cond, List, length, Some, None, codes as text, Option}
use Rattle.std.specs.Str.{bytes_eq}
use Rattle.samples.specs.declared.words.Pair.{Pair}
use Rattle.samples.specs.declared.words.SumWord.{SumWord}
use Rattle.samples.specs.declared.words.XorWord.{XorWord}
use Rattle.samples.specs.contracts.codes.PairSumWordXorWordCoded.TheImpl.{ghosts as pair_codes}
use Rattle.samples.specs.contracts.codes.SumWordCoded.TheImpl.{ghosts as sum_codes}
use Rattle.samples.specs.contracts.codes.XorWordCoded.TheImpl.{ghosts as xor_codes}
use Rattle.mojette.specs.Meaning.{Meaning}
use Rattle.format.specs.Format.{there, file, read_file, refused}
use Rattle.format.specs.Readers.{Worth, Parsed, done, fault, Reader, ◌>>◌, accept, expect}
use Rattle.bracket.specs.declared.kind_name.KindName.{KindName}
use Rattle.bracket.specs.declared.kind_name.KindName.TheVariants.{Sum, Xor, Pair as Pairs}

-- the kind that has this name, if one of the three has it
abbrev pub kind_with : List ℕ → Option KindName
kind_with w =
    cond (bytes_eq w sum_codes.name) (Some Sum)
    (cond (bytes_eq w xor_codes.name) (Some Xor)
    (cond (bytes_eq w pair_codes.name) (Some Pairs) None))

abbrev pub kind_word : List ℕ → Worth KindName
kind_word w = there (kind_with w)

-- the start of the first line, as a file's reader reads it
abbrev pub kind_reader : ℕ → Reader KindName
kind_reader n = do
  expect n (text "(")
  expect n (text "tile")
  expect n (text " ")
  accept n kind_word

abbrev pub value_of : {A : Type 0} → Parsed A → Option A
value_of (done a bs) = Some a
value_of (fault byte why) = None

abbrev pub kind_named : List ℕ → Option KindName
kind_named t = value_of (kind_reader (length t) t)

-- A text that is a file of some kind names that kind.
pub record Named (t : List ℕ) (kind : Option KindName) : Type 0 where
  pub as_sums : (m : Meaning SumWord) → read_file sum_codes t ≡ file m → kind ≡ Some Sum
  pub as_xors : (m : Meaning XorWord) → read_file xor_codes t ≡ file m → kind ≡ Some Xor
  pub as_pairs : (m : Meaning (Pair SumWord XorWord)) → read_file pair_codes t ≡ file m → kind ≡ Some Pairs

-- No reader reads t, and each says the same of it.
pub record Unread (t : List ℕ) : Type 0 where
  pub line : ℕ
  pub byte : ℕ
  pub why : ℕ
  pub as_sums : read_file sum_codes t ≡ refused line byte why
  pub as_xors : read_file xor_codes t ≡ refused line byte why
  pub as_pairs : read_file pair_codes t ≡ refused line byte why
