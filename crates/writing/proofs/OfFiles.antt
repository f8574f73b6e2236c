-- A plan and the source that it is of, and the text of its file.
use Rattle.std.proofs.Common.{◌≡◌, ℕ, suc, ◌+◌, ◌^◌, ◌<◌, ◌≤◌, List, [], ◌∷◌, ◌++◌, map, length, get_or, codes as text, sym, ap, ◌∙◌, subst, append_assoc, arith, length-append}
use Rattle.std.specs.List.{AllByRecursion as All}
use Rattle.std.proofs.lemmas.List.{get_or-map, length-map}
use Rattle.samples.specs.declared.coded.Coded.{Ghosts as Codes}
use Rattle.samples.specs.declared.kind.Kind.{Ghosts as Operations}
use Rattle.mojette.specs.Bins.{bins, all_bins}
use Rattle.mojette.specs.Meaning.{Place, Meaning, shape_of}
use Rattle.plan.specs.declared.places.Place.{Place as Laid}
use Rattle.plan.specs.declared.plan.Plan.{Plan}
use Rattle.plan.specs.Laid.{record_of, records_of, no_place as no_laid, place_at as laid_at}
use Rattle.plan.specs.Shapes.{shape, places_of}
use Rattle.source.specs.Questions.{no_record, no_place, place_at}
use Rattle.source.proofs.Cuts.{place_within}
use Rattle.format.specs.Format.{most_cause}
use Rattle.format.specs.Laws.{Causes}
use Rattle.format.specs.Texts.{head_text, end_text, places_text, file_text}
use Rattle.writing.specs.Files.{place_lines, StandsFor}
use Rattle.writing.proofs.OfPlaces.{lines_told}
use Rattle.writing.proofs.OfTile.{head_on}

module _ (plan : Plan) (ys : List Laid) (is : ys ≡ places_of plan) (i : ℕ) (inside : i < length ys) where
  size_there : (laid_at ys i).bins ≡ bins plan.size.columns plan.size.rows (record_of (laid_at ys i)).direction
  size_there =
      subst (λ l. i < length l → (laid_at l i).bins ≡ bins plan.size.columns plan.size.rows (record_of (laid_at l i)).direction) (sym is) (plan.sizes i) inside

  record_there : record_of (laid_at ys i) ≡ get_or (records_of ys) i no_record
  record_there = sym (get_or-map record_of ys i no_laid no_record inside)

  -- a place has no more bins than the whole plan
  pub bins_there : (laid_at ys i).bins < 2 ^ 16
  bins_there =
      let P = plan.size.columns in
      let Q = plan.size.rows in
      let within = place_within P Q (records_of ys) i (subst (λ n. i < n) (sym (length-map ys record_of)) inside) in
      let all : all_bins P Q (records_of ys) ≡ all_bins P Q (records_of (places_of plan)) = ap (λ l. all_bins P Q (records_of l)) is in
      let e : (laid_at ys i).bins ≡ bins P Q (get_or (records_of ys) i no_record).direction = size_there ∙ ap (λ r. bins P Q r.direction) record_there in
      omega (arith, plan.full, plan.few_bins)

  module _ {S : Type 0} (m : Meaning S) (same : shape plan ≡ shape_of m) where
    records_are : records_of ys ≡ map (λ x. x.entry) m.places
    records_are = ap records_of is ∙ ap (λ s. s.records) same

    -- a place of the plan is one of the source
    pub stands : StandsFor m i (laid_at ys i)
    stands =
        let within : i < length m.places = subst (λ n. i < n) (sym (length-map ys record_of) ∙ ap length records_are ∙ length-map m.places (λ x. x.entry)) inside in
        let entry : record_of (laid_at ys i) ≡ (place_at m i).entry =
        record_there ∙ ap (λ l. get_or l i no_record) records_are ∙ get_or-map (λ x. x.entry) m.places i no_place no_record within in
        record {
          inside = within;
          entry = entry;
          bins = size_there ∙ (λ j. bins (same j).P (same j).Q (entry j).direction);
        }

-- as many places as the plan has
pub places_count : {S : Type 0} (plan : Plan) (ys : List Laid) → ys ≡ places_of plan → (m : Meaning S) → shape plan ≡ shape_of m → length ys ≡ length m.places
places_count plan ys is m same =
    sym (length-map ys record_of) ∙ ap (λ l. length (records_of l)) is ∙ ap (λ s. length s.records) same ∙ length-map m.places (λ x. x.entry)

module _ {S : Type 0} (K : Operations S) (C : Codes S) (m : Meaning S) where
  -- the first line, the lines of the places, and the end
  pub file_pieces : head_text (text "tile") C.name m.P m.Q [] ++ place_lines K C m.P m.Q m.places ++ end_text ≡ file_text K C m
  file_pieces =
      append_assoc (head_text (text "tile") C.name m.P m.Q []) (place_lines K C m.P m.Q m.places) end_text
      ∙ ap (λ l. head_text (text "tile") C.name m.P m.Q [] ++ l) (sym (lines_told K C m.P m.Q m.places))
      ∙ sym (head_on (text "tile") C.name m.P m.Q (places_text K C m.P m.Q m.places))

  pub length-file : length (file_text K C m) ≡ length (head_text (text "tile") C.name m.P m.Q []) + length (place_lines K C m.P m.Q m.places) + 6
  length-file =
      let head = head_text (text "tile") C.name m.P m.Q [] in
      let lines = place_lines K C m.P m.Q m.places in
      ap length (sym file_pieces) ∙ length-append (head ++ lines) end_text ∙ ap (λ n. n + 6) (length-append head lines)

-- Causes ----------------------------------------------------------------------------------------------------------

pub bytes_there :
    (xs : List Laid) → ((k : ℕ) → k < length xs → (laid_at xs k).cause ≤ most_cause) → All (λ e. e.cause ≤ most_cause) (records_of xs)
bytes_there [] h = tt
bytes_there (x ∷ xs) h = (h 0 (omega arith), bytes_there xs (λ k l. h (suc k) (omega arith)))

-- what holds of the causes of a shape's records holds of the meaning's
causes_in : {S : Type 0} (xs : List (Place S)) → All (λ e. e.cause ≤ most_cause) (map (λ x. x.entry) xs) → All (λ x. x.entry.cause ≤ most_cause) xs
causes_in [] h = tt
causes_in (x ∷ xs) h = (h.0, causes_in xs h.1)

pub causes_of : {S : Type 0} (plan : Plan) (m : Meaning S) → shape plan ≡ shape_of m → All (λ e. e.cause ≤ most_cause) (shape plan).records → Causes m
causes_of plan m same h = causes_in m.places (subst (λ s. All (λ e. e.cause ≤ most_cause) s.records) same h)
