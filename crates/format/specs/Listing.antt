-- The listing of a picture, of a ghost and of a refusal, over any kind that has codes.
use Rattle.std.specs.Prelude.{ℕ, zero, suc, ◌+◌, ◌*◌, cond, List, [], ◌∷◌, ◌++◌, map, codes as text, decimal, slice_index_or}
use Rattle.std.specs.List.{range_with_len}
use Rattle.samples.specs.declared.coded.Coded.{Ghosts as Codes}
use Rattle.samples.specs.declared.kind.Kind.{Ghosts as Operations}
use Rattle.mojette.specs.declared.direction.Record.{Record}
use Rattle.mojette.specs.Bins.{whole}
use Rattle.mojette.specs.Meaning.{Shape}
use Rattle.mojette.specs.Refusals.{Refusal}
use Rattle.format.specs.Texts.{codes_text, head_text, end_text}

-- a line for each lost place among records, the first of which is that of place i
abbrev pub lost_text : ℕ → List Record → List ℕ → List ℕ
lost_text i [] bs = bs
lost_text i (e ∷ es) bs =
    cond (whole e)
    (lost_text (suc i) es bs)
    (text "(lost " ++ (decimal i ++ (32 ∷ (decimal e.cause ++ (text ")" ++ (10 ∷ lost_text (suc i) es bs))))))

module _ {S : Type 0} (K : Operations S) (C : Codes S) where
  module _ (P : ℕ) (tile : List S) where
    -- the samples of row l
    abbrev pub row : ℕ → List S
    row l = map (λ k. slice_index_or tile (l * P + k) K.zero) (range_with_len 0 P)

    -- a line for each of n rows from row l on
    abbrev pub rows_text : ℕ → ℕ → List ℕ → List ℕ
    rows_text l zero bs = bs
    rows_text l (suc n) bs = text "(row" ++ codes_text C (row l) (text ")" ++ (10 ∷ rows_text (suc l) n bs))

  -- a tile with lines for the lost places among some records
  abbrev pub tile_text : List ℕ → ℕ → ℕ → List Record → List S → List ℕ
  tile_text word P Q records tile =
      head_text word C.name P Q (lost_text 0 records (rows_text P tile 0 Q end_text))

  abbrev pub picture_text : Shape → List S → List ℕ
  picture_text s tile = tile_text (text "picture") s.P s.Q [] tile

  abbrev pub ghost_text : Shape → List S → List ℕ
  ghost_text s tile = tile_text (text "ghost") s.P s.Q s.records tile

abbrev pub refusal_text : Refusal → List ℕ
refusal_text r =
    text "(refused " ++ (decimal r.number ++ (32 ∷ (decimal r.first ++ (32 ∷ (decimal r.second ++ (32 ∷ (decimal r.third ++ (text ")" ++ (10 ∷ [])))))))))
