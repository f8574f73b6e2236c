-- The picture of a listing as a PGM file.
use Rattle.std.specs.Prelude.{◌≡◌, ℕ, zero, suc, ◌/◌, ◌%◌, ◌^◌, ◌<◌, cond, decimal, not, List, [], ◌∷◌, ◌++◌, take, drop, Some, None, Option, codes as text, ◌==◌, nat_eq}
use Rattle.std.specs.List.{filter_map, flat_map, prefix_len, slice_split, starts_with}
use Rattle.samples.specs.declared.words.SumWord.{SumWord}
use Rattle.samples.specs.contracts.codes.SumWordCoded.TheImpl.{ghosts as sum_codes}
use Rattle.samples.specs.contracts.impls.SumWordKind.TheImpl.{ghosts as sum_operations}
use Rattle.mojette.specs.Meaning.{Shape}
use Rattle.format.specs.Listing.{row, picture_text}
use Rattle.samples.specs.Names.{mark}
use Rattle.samples.specs.Reading.{read_code}

-- a sum word in two bytes, the first with the most weight
abbrev pub sample_bytes : SumWord → List ℕ
sample_bytes x = x.value / 256 ∷ x.value % 256 ∷ []

-- the file of a size and of samples
abbrev pub pgm_bytes : List ℕ → List SumWord → List ℕ
pgm_bytes size xs = text "P5" ++ 10 ∷ [] ++ size ++ 10 ∷ text "65535" ++ 10 ∷ [] ++ flat_map sample_bytes xs

-- the samples whose codes are words of a text
abbrev pub samples_in : List ℕ → List SumWord
samples_in t = filter_map (read_code sum_codes) (slice_split mark t)

-- how much of a text stands before its first closing bracket
abbrev pub size_len : List ℕ → ℕ
size_len t = prefix_len (λ b. not (b == 41)) t

-- of what stands behind the kind: the size up to the bracket, and the samples behind it
abbrev pub picture_bytes : List ℕ → List ℕ
picture_bytes t = pgm_bytes (take (size_len t) t) (samples_in (drop (size_len t) t))

-- the file of a listing, if it is the listing of a picture of sum words
abbrev pub pgm_of : List ℕ → Option (List ℕ)
pgm_of t = cond (starts_with nat_eq t (text "(picture sum ")) (Some (picture_bytes (drop 13 t))) None

-- the samples of n rows of a tile from row l on
abbrev pub rows_of : ℕ → List SumWord → ℕ → ℕ → List SumWord
rows_of P tile l zero = []
rows_of P tile l (suc n) = row sum_operations sum_codes P tile l ++ rows_of P tile (suc l) n

-- The file of the listing of a picture has the picture's size and its samples, row by row.
abbrev pub ShowsPicture : Type 0
ShowsPicture =
    (s : Shape) (tile : List SumWord) → s.P < 2 ^ 64 → s.Q < 2 ^ 64
    → pgm_of (picture_text sum_operations sum_codes s tile) ≡ Some (pgm_bytes (decimal s.P ++ 32 ∷ decimal s.Q) (rows_of s.P tile 0 s.Q))
