-- The code of a sample and its reading, for every kind that has codes.
use Rattle.std.specs.Prelude.{◌≡◌, ℕ, ◌<◌, cond, List, ◌++◌, length, drop, Some, None, Option}
use Rattle.samples.specs.declared.coded.Coded.{Ghosts as Codes}
use Rattle.samples.specs.Codes.{hex_text, hex_number, is_code}

module _ {S : Type 0} (C : Codes S) where
  abbrev pub code : S → List ℕ
  code x = hex_text C.width (C.number x)

  -- the sample that a word is the code of, if it is a code
  abbrev pub read_code : List ℕ → Option S
  read_code w = cond (is_code C.width w) (Some (C.sample (hex_number w))) None

  -- A sample has one code, of `width` digits, which is read as that sample; and no other word is read.
  pub record OneToOne : Type 0 where
    pub digits : (x : S) → length (code x) ≡ C.width
    pub reads_back : (x : S) → read_code (code x) ≡ Some x
    pub writes_back : (w : List ℕ) (x : S) → read_code w ≡ Some x → w ≡ code x
    pub apart : (x y : S) → code x ≡ code y → x ≡ y

-- A call that writes a text into the first cells of a table leaves the others, and answers the text's length; or it finds
-- too few cells and writes nothing.
abbrev pub Written : List ℕ → List ℕ → Option ℕ → List ℕ → Type 0
Written text out (Some n) after = (n ≡ length text) × (after ≡ text ++ drop (length text) out)
Written text out None after = (length out < length text) × (after ≡ out)
