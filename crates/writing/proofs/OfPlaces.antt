-- The lines of places, piece by piece.
use Rattle.std.proofs.Common.{◌≡◌, ℕ, suc, ◌+◌, ◌*◌, ◌<◌, ◌≤◌, Bool, true, false, cond, List, [], ◌∷◌, ◌++◌, length, get_or, take, codes as text, decimal, sym, refl, ap, ◌∙◌, append_assoc, append-nil, add-one, arith, length-append}
use Rattle.std.specs.Fmt.{signed_decimal}
use Rattle.std.proofs.lemmas.Bool.{cond-true, cond-false, eq-eqb, ne_eqb}
use Rattle.std.proofs.lemmas.List.{take_more}
use Rattle.std.proofs.lemmas.List.Concat.{flat_map-append}
use Rattle.std.proofs.lemmas.List.Folds.{length-flat_map-take}
use Rattle.std.proofs.lemmas.List.FromFn.{length-map-range_with_len, get_or-map-range_with_len}
use Rattle.samples.specs.declared.coded.Coded.{Ghosts as Codes}
use Rattle.samples.specs.declared.kind.Kind.{Ghosts as Operations}
use Rattle.samples.specs.Reading.{code}
use Rattle.mojette.specs.declared.direction.Direction.{Direction}
use Rattle.mojette.specs.Bins.{bins, whole}
use Rattle.mojette.specs.Faults.{served}
use Rattle.mojette.specs.Meaning.{Place, Meaning}
use Rattle.plan.specs.declared.places.Place.{Place as Laid}
use Rattle.plan.specs.Laid.{direction_of, record_of}
use Rattle.source.specs.Questions.{no_place, place_at, bins_at, asked_bin}
use Rattle.source.proofs.Asking.{bin_there}
use Rattle.format.specs.Texts.{codes_text, direction_text, bin_sums, held_text, dir_text, places_text, end_text}
use Rattle.writing.specs.Files.{held_end, place_line, place_lines}
use Rattle.writing.specs.Lines.{spaced}
use Rattle.writing.proofs.OfLines.{spaced_more, spaced_within}
use Rattle.writing.proofs.OfRows.{codes_told, length-codes}

-- a sign, the digits of |p|, and q
pub direction_pieces :
    (y : Laid) (sign : List ℕ) → sign ++ decimal y.slope ≡ signed_decimal (direction_of y).p
    → text " " ++ sign ++ decimal y.slope ++ spaced decimal (y.q ∷ []) ≡ direction_text (direction_of y) []
direction_pieces y sign e = ap (λ l. 32 ∷ (l ++ spaced decimal (y.q ∷ []))) e

direction_on : (d : Direction) (bs : List ℕ) → direction_text d bs ≡ direction_text d [] ++ bs
direction_on d bs = sym (simp append_assoc)

-- Bins --------------------------------------------------------------------------------------------------------------

pub length-sums : {S : Type 0} (K : Operations S) (P Q : ℕ) (x : Place S) → length (bin_sums K P Q x) ≡ bins P Q x.entry.direction
length-sums K P Q x = length-map-range_with_len _ 0 (bins P Q x.entry.direction)

-- bin b of a whole place, whose sum was answered
module _ {S : Type 0} (K : Operations S) (C : Codes S) (m : Meaning S) (i b : ℕ) (here : (i < length m.places) × (whole (place_at m i).entry ≡ true)) (within : b < bins_at m i) (x : S) (a : served x ≡ asked_bin K m i b) where
  abbrev sums : List S
  sums = bin_sums K m.P m.Q (place_at m i)

  sum_there : x ≡ get_or sums b x
  sum_there =
      let s : served x ≡ served (get_or (place_at m i).sums b K.zero) = a ∙ bin_there K m i b here.0 here.1 within in
      let e : x ≡ get_or (place_at m i).sums b K.zero = cc in
      e ∙ sym (get_or-map-range_with_len (λ k. get_or (place_at m i).sums k K.zero) 0 (bins_at m i) b b x within (omega arith))

  inside : b < length sums
  inside = omega (arith, length-sums K m.P m.Q (place_at m i))

  -- one more code
  pub codes_more : spaced (code C) (take b sums) ++ (32 ∷ []) ++ code C x ≡ spaced (code C) (take (b + 1) sums)
  codes_more = spaced_more (code C) sums b x (code C x) (ap (code C) sum_there) inside

  -- so far, and with one more
  pub codes_within : length (spaced (code C) (take b sums)) + (length (code C x) + 1) ≤ length (spaced (code C) sums)
  codes_within = spaced_within (code C) sums b x (code C x) (ap (code C) sum_there) inside

-- Lines -------------------------------------------------------------------------------------------------------------

module _ {S : Type 0} (K : Operations S) (C : Codes S) (P Q : ℕ) (x : Place S) where
  pub held_whole : x.entry.cause ≡ 0 → text " (bins" ++ spaced (code C) (bin_sums K P Q x) ++ (41 ∷ (41 ∷ (10 ∷ []))) ≡ held_end K C P Q x
  held_whole none =
      ap (λ l. text " (bins" ++ l) (sym (codes_told C (bin_sums K P Q x) (41 ∷ (41 ∷ (10 ∷ [])))))
      ∙ ap (λ l. text " (" ++ l) (sym (cond-true (whole x.entry) _ _ (eq-eqb x.entry.cause 0 none)))

  pub held_lost : (x.entry.cause ≡ 0 → ⊥) → text " (lost" ++ spaced decimal (x.entry.cause ∷ []) ++ (41 ∷ (41 ∷ (10 ∷ []))) ≡ held_end K C P Q x
  held_lost some =
      ap (λ l. text " (lost " ++ l) (append_assoc (decimal x.entry.cause) [] (41 ∷ (41 ∷ (10 ∷ []))))
      ∙ ap (λ l. text " (" ++ l) (sym (cond-false (whole x.entry) _ _ (ne_eqb x.entry.cause 0 some)))

  pub line_pieces : text "(dir" ++ direction_text x.entry.direction [] ++ held_end K C P Q x ≡ place_line K C P Q x
  line_pieces = ap (λ l. text "(dir" ++ l) (sym (direction_on x.entry.direction (held_end K C P Q x)))

  held_on : (bs : List ℕ) → held_text K C P Q x (41 ∷ (41 ∷ (10 ∷ bs))) ≡ held_text K C P Q x (41 ∷ (41 ∷ (10 ∷ []))) ++ bs
  held_on bs = go (whole x.entry)
    where
      go :
          (w : Bool)
          → cond w (text "bins" ++ codes_text C (bin_sums K P Q x) (41 ∷ (41 ∷ (10 ∷ bs)))) (text "lost " ++ (decimal x.entry.cause ++ (41 ∷ (41 ∷ (10 ∷ bs)))))
          ≡ cond w (text "bins" ++ codes_text C (bin_sums K P Q x) (41 ∷ (41 ∷ (10 ∷ [])))) (text "lost " ++ (decimal x.entry.cause ++ (41 ∷ (41 ∷ (10 ∷ []))))) ++ bs
      go true =
          ap (λ l. text "bins" ++ l)
          (codes_told C (bin_sums K P Q x) (41 ∷ (41 ∷ (10 ∷ bs))) ∙ sym (append_assoc (spaced (code C) (bin_sums K P Q x)) (41 ∷ (41 ∷ (10 ∷ []))) bs)
          ∙ ap (λ l. l ++ bs) (sym (codes_told C (bin_sums K P Q x) (41 ∷ (41 ∷ (10 ∷ []))))))
      go false = ap (λ l. text "lost " ++ l) (sym (append_assoc (decimal x.entry.cause) (41 ∷ (41 ∷ (10 ∷ []))) bs))

  line_on : (bs : List ℕ) → text "(dir" ++ dir_text K C P Q x bs ≡ place_line K C P Q x ++ bs
  line_on bs =
      let d = x.entry.direction in
      ap (λ l. text "(dir" ++ l)
      (ap (λ l. direction_text d (text " (" ++ l)) (held_on bs) ∙ direction_on d (held_end K C P Q x ++ bs) ∙ sym (append_assoc (direction_text d []) (held_end K C P Q x) bs)
      ∙ ap (λ l. l ++ bs) (sym (direction_on d (held_end K C P Q x))))

module _ {S : Type 0} (K : Operations S) (C : Codes S) (P Q : ℕ) where
  -- the lines after the first are those of the places, and the end
  pub lines_told : (xs : List (Place S)) → places_text K C P Q xs ≡ place_lines K C P Q xs ++ end_text
  lines_told [] = refl
  lines_told (x ∷ xs) =
      line_on K C P Q x (places_text K C P Q xs) ∙ ap (λ l. place_line K C P Q x ++ l) (lines_told xs) ∙ sym (append_assoc (place_line K C P Q x) (place_lines K C P Q xs) end_text)

  module _ (xs : List (Place S)) (i : ℕ) (inside : i < length xs) where
    -- one more line
    pub lines_more : place_lines K C P Q (take i xs) ++ place_line K C P Q (get_or xs i no_place) ≡ place_lines K C P Q (take (i + 1) xs)
    lines_more =
        let line = place_line K C P Q (get_or xs i no_place) in
        ap (λ l. place_lines K C P Q (take i xs) ++ l) (sym (append-nil line))
        ∙ sym (flat_map-append (place_line K C P Q) (take i xs) (get_or xs i no_place ∷ []))
        ∙ ap (place_lines K C P Q) (sym (take_more xs i no_place inside))

    -- so far, and with one more
    pub lines_within : length (place_lines K C P Q (take i xs)) + length (place_line K C P Q (get_or xs i no_place)) ≤ length (place_lines K C P Q xs)
    lines_within = length-flat_map-take (place_line K C P Q) xs i no_place inside

-- Lengths -----------------------------------------------------------------------------------------------------------

module _ {S : Type 0} (K : Operations S) (C : Codes S) (y : Laid) (sign : List ℕ) (signed : sign ++ decimal y.slope ≡ signed_decimal (direction_of y).p) where
  length-direction : length (direction_text (direction_of y) []) ≡ 1 + length sign + length (decimal y.slope) + length (spaced decimal (y.q ∷ []))
  length-direction = ap length (sym (direction_pieces y sign signed)) ∙ simp length-append (omega arith)

  module _ (P Q : ℕ) (x : Place S) (same : record_of y ≡ x.entry) where
    by_held : (held : ℕ) → length (held_end K C P Q x) ≡ held + 9 → length sign + length (decimal y.slope) + length (spaced decimal (y.q ∷ [])) + held + 14 ≡ length (place_line K C P Q x)
    by_held held e =
        let pieces = ap length (sym (line_pieces K C P Q x)) in
        let d : length (direction_text x.entry.direction []) ≡ length (direction_text (direction_of y) []) = ap (λ e. length (direction_text e.direction [])) (sym same) in
        omega (arith, pieces, length-append (text "(dir" ++ direction_text x.entry.direction []) (held_end K C P Q x), d, length-direction, e)

    -- a whole place, by its bins
    pub whole_length :
        y.cause ≡ 0 → y.bins ≡ bins P Q x.entry.direction → (digits : ℕ) → digits ≡ C.width
        → length sign + length (decimal y.slope) + length (spaced decimal (y.q ∷ [])) + y.bins * (digits + 1) + 14 ≡ length (place_line K C P Q x)
    whole_length none b digits w =
        let codes = spaced (code C) (bin_sums K P Q x) in
        let held = ap length (sym (held_whole K C P Q x (ap (λ e. e.cause) (sym same) ∙ none))) in
        let count : length codes ≡ y.bins * (digits + 1) =
        length-codes C (bin_sums K P Q x) ∙ (λ i. (length-sums K P Q x ∙ sym b) i * suc (sym w i)) ∙ ap (λ n. y.bins * n) (sym (add-one digits)) in
        by_held (y.bins * (digits + 1)) (omega (arith, held, count, length-append (text " (bins" ++ codes) (41 ∷ (41 ∷ (10 ∷ [])))))

    -- a lost place, by its cause
    pub lost_length :
        (y.cause ≡ 0 → ⊥) → length sign + length (decimal y.slope) + length (spaced decimal (y.q ∷ [])) + length (spaced decimal (y.cause ∷ [])) + 14 ≡ length (place_line K C P Q x)
    lost_length some =
        let why = spaced decimal (y.cause ∷ []) in
        let cause : y.cause ≡ x.entry.cause = ap (λ e. e.cause) same in
        let held = ap length (sym (held_lost K C P Q x (λ z. some (cause ∙ z)))) in
        let same_why : length why ≡ length (spaced decimal (x.entry.cause ∷ [])) = ap (λ n. length (spaced decimal (n ∷ []))) cause in
        by_held (length why) (omega (arith, held, same_why, length-append (text " (lost" ++ spaced decimal (x.entry.cause ∷ [])) (41 ∷ (41 ∷ (10 ∷ [])))))
