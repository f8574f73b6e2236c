-- The text of a bracket file, over any kind that has codes. Each definition but the last gives the text of a part, followed by bs.
use Rattle.std.specs.Prelude.{ℕ, cond, List, [], ◌∷◌, ◌++◌, map, codes as text, decimal, slice_index_or}
use Rattle.std.specs.List.{range_with_len}
use Rattle.std.specs.Fmt.{signed_decimal}
use Rattle.samples.specs.declared.coded.Coded.{Ghosts as Codes}
use Rattle.samples.specs.declared.kind.Kind.{Ghosts as Operations}
use Rattle.samples.specs.Reading.{code}
use Rattle.mojette.specs.declared.direction.Direction.{Direction}
use Rattle.mojette.specs.Bins.{bins, whole}
use Rattle.mojette.specs.Meaning.{Place, Meaning}

module _ {S : Type 0} (C : Codes S) where
  -- codes, each after a space
  abbrev pub codes_text : List S → List ℕ → List ℕ
  codes_text [] bs = bs
  codes_text (x ∷ xs) bs = 32 ∷ (code C x ++ codes_text xs bs)

-- a bracket and a word, then the name of a kind and the sizes of a tile, with the line end
abbrev pub head_text : List ℕ → List ℕ → ℕ → ℕ → List ℕ → List ℕ
head_text word name P Q bs =
    text "(" ++ (word ++ (32 ∷ (name ++ (32 ∷ (decimal P ++ (32 ∷ (decimal Q ++ (text ")" ++ (10 ∷ bs)))))))))

abbrev pub end_text : List ℕ
end_text = text "(end)" ++ (10 ∷ [])

abbrev pub direction_text : Direction → List ℕ → List ℕ
direction_text d bs = 32 ∷ (signed_decimal d.p ++ (32 ∷ (signed_decimal d.q ++ bs)))

module _ {S : Type 0} (K : Operations S) (P Q : ℕ) where
  -- the sums of all bins of a place
  abbrev pub bin_sums : Place S → List S
  bin_sums x = map (λ b. slice_index_or x.sums b K.zero) (range_with_len 0 (bins P Q x.entry.direction))

  -- a place as a file tells it: just the sums of its bins where it is whole, and none where it is lost
  abbrev pub trimmed_place : Place S → Place S
  trimmed_place x = record { entry = x.entry; sums = cond (whole x.entry) (bin_sums x) [] }

-- a meaning as a file tells it
abbrev pub trimmed : {S : Type 0} → Operations S → Meaning S → Meaning S
trimmed K m = record { P = m.P; Q = m.Q; places = map (trimmed_place K m.P m.Q) m.places }

module _ {S : Type 0} (K : Operations S) (C : Codes S) (P Q : ℕ) where
  -- what a place holds: the codes of its sums, or why it is lost
  abbrev pub held_text : Place S → List ℕ → List ℕ
  held_text x bs =
      cond (whole x.entry)
      (text "bins" ++ codes_text C (bin_sums K P Q x) bs)
      (text "lost " ++ (decimal x.entry.cause ++ bs))

  -- what follows `(dir`, with the line end
  abbrev pub dir_text : Place S → List ℕ → List ℕ
  dir_text x bs = direction_text x.entry.direction (text " (" ++ held_text x (text "))" ++ (10 ∷ bs)))

  -- the lines after the first
  abbrev pub places_text : List (Place S) → List ℕ
  places_text [] = end_text
  places_text (x ∷ xs) = text "(dir" ++ dir_text x (places_text xs)

abbrev pub file_text : {S : Type 0} → Operations S → Codes S → Meaning S → List ℕ
file_text K C m = head_text (text "tile") C.name m.P m.Q (places_text K C m.P m.Q m.places)
