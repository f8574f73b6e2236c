-- A written file is read as what it means.
use Rattle.std.proofs.Common.{◌≡◌, ℕ, zero, suc, ◌^◌, ◌<◌, ◌≤◌, true, false, List, [], ◌∷◌, ◌++◌, map, length, Some, None, codes as text, decimal, Option, sym, refl, ap, ◌∙◌, ⊎_elim, arith}
use Rattle.std.specs.Fmt.{signed_decimal}
use Rattle.std.specs.List.{AllByRecursion as All}
use Rattle.std.proofs.lemmas.List.FromFn.{length-map-range_with_len}
use Rattle.std.proofs.lemmas.List.{length-map}
use Rattle.std.proofs.lemmas.Bool.{cond-true, cond-false, cases_Bool, eqb-true, eqb-false}
use Rattle.samples.specs.declared.coded.Coded.{Ghosts as Codes}
use Rattle.samples.specs.declared.kind.Kind.{Ghosts as Operations}
use Rattle.samples.specs.Reading.{code}
use Rattle.mojette.specs.declared.direction.Direction.{Direction}
use Rattle.mojette.specs.Bins.{bins, whole}
use Rattle.mojette.specs.Bounds.{most_side, most_places}
use Rattle.mojette.specs.Directions.{lawful}
use Rattle.mojette.specs.Meaning.{Place, Meaning, follows, shape_of, Lawful}
use Rattle.format.specs.Format.{most_cause, size_word, cause_word, p_word, q_word, code_word, bins_word, head_reader, direction_reader, is_first, codes_reader, sums_reader, dir_reader, places_reader, file_reader, told}
use Rattle.format.specs.Laws.{Causes, ReadsBack}
use Rattle.format.specs.Readers.{Parsed, done, Reader, then, accept, exactly}
use Rattle.format.specs.Texts.{codes_text, head_text, direction_text, bin_sums, trimmed_place, trimmed, held_text, dir_text, places_text, file_text}
use Rattle.samples.specs.Names.{IsWord}
use Rattle.format.proofs.OfCodes.{word_code, sample_there}
use Rattle.format.proofs.OfNumbers.{word_decimal, word_signed}
use Rattle.format.proofs.OfPlaces.{Steps, lawful_parts}
use Rattle.format.proofs.OfReaders.{then_done, accept_word, exactly_there}
use Rattle.format.proofs.OfTokens.{Ends}
use Rattle.format.proofs.OfWords.{number_there, p_there, q_there, steps_bound}

size_there : (n v : ℕ) (r : List ℕ) → (1 ≤ v) × (v ≤ most_side) → Ends r → accept n size_word (decimal v ++ r) ≡ done v r
size_there n v r h e =
    let small : v < 2 ^ 64 = omega arith in
    accept_word n size_word v (decimal v) r (number_there 1 most_side 1 v h.0 h.1 small) (word_decimal v small) e

head_there :
    (name : List ℕ) (n P Q : ℕ) (r : List ℕ) → IsWord name → (1 ≤ P) × (P ≤ most_side) → (1 ≤ Q) × (Q ≤ most_side)
    → head_reader name n (head_text (text "tile") name P Q r) ≡ done (P, Q) r
head_there name n P Q r i p q =
    then_done _ (accept_word n (exactly name) tt name _ (exactly_there name) i refl)
    (then_done _ (size_there n P _ p refl)
    (then_done _ (size_there n Q _ q refl) refl))

direction_there :
    (n : ℕ) (last : Option Direction) (d : Direction) (r : List ℕ) → lawful d ≡ true → follows last d ≡ true → Ends r
    → direction_reader n last (direction_text d r) ≡ done d r
direction_there n last d r l f e =
    let near = steps_bound d l in
    then_done _ (accept_word n p_word d.p (signed_decimal d.p) _ (p_there d.p near.0) (word_signed d.p (omega arith)) refl)
    (accept_word n (q_word last d.p) d (signed_decimal d.q) r (q_there last d l f) (word_signed d.q (omega arith)) e)

module _ {S : Type 0} (C : Codes S) (n : ℕ) where
  ends_codes : (xs : List S) (r : List ℕ) → Ends r → Ends (codes_text C xs r)
  ends_codes [] r e = e
  ends_codes (x ∷ xs) r e = refl

  codes_there : (xs : List S) (r : List ℕ) → Ends r → codes_reader C n (length xs) (codes_text C xs r) ≡ done xs r
  codes_there [] r e = refl
  codes_there (x ∷ xs) r e =
      then_done _ (accept_word n (code_word C) x (code C x) (codes_text C xs r) (sample_there C x) (word_code C x) (ends_codes xs r e))
      (then_done _ (codes_there xs r e) refl)

module _ {S : Type 0} (K : Operations S) (C : Codes S) (n P Q : ℕ) where
  -- what follows the bracket before `bins` or `lost`
  held_there :
      {B : Type 0} (x : Place S) (r : List ℕ) (f : ℕ × List S → Reader B) → x.entry.cause ≤ most_cause → Ends r
      → then (accept n bins_word (held_text K C P Q x r)) (λ how bs. then (sums_reader C n (bins P Q x.entry.direction) how bs) f)
      ≡ f (x.entry.cause, (trimmed_place K P Q x).sums) r
  held_there {B} x r f small e = ⊎_elim held lost (cases_Bool (whole x.entry))
    where
      go : List ℕ → Parsed B
      go bs = then (accept n bins_word bs) (λ how s. then (sums_reader C n (bins P Q x.entry.direction) how s) f)

      count : length (bin_sums K P Q x) ≡ bins P Q x.entry.direction
      count = length-map-range_with_len _ 0 (bins P Q x.entry.direction)

      held : whole x.entry ≡ true → go (held_text K C P Q x r) ≡ f (x.entry.cause, (trimmed_place K P Q x).sums) r
      held w =
          ap go (cond-true (whole x.entry) _ _ w)
          ∙ then_done _ (accept_word n bins_word true (text "bins") (codes_text C (bin_sums K P Q x) r) refl (refl, (refl, (refl, (refl, tt)))) (ends_codes C n (bin_sums K P Q x) r e))
          (then_done _ (then_done _ (ap (λ b. codes_reader C n b (codes_text C (bin_sums K P Q x) r)) (sym count) ∙ codes_there C n (bin_sums K P Q x) r e) refl)
          (λ i. f (sym (eqb-true x.entry.cause 0 w) i, sym (cond-true (whole x.entry) (bin_sums K P Q x) [] w) i) r))

      lost : whole x.entry ≡ false → go (held_text K C P Q x r) ≡ f (x.entry.cause, (trimmed_place K P Q x).sums) r
      lost w =
          let c = x.entry.cause in
          let some : 1 ≤ c = let ne = eqb-false c 0 w in omega arith in
          let fits : c < 2 ^ 64 = omega arith in
          ap go (cond-false (whole x.entry) _ _ w)
          ∙ then_done _ (then_done _ (accept_word n cause_word c (decimal c) r (number_there 1 most_cause 0 c some small fits) (word_decimal c fits) e) refl)
          (λ i. f (c, sym (cond-false (whole x.entry) (bin_sums K P Q x) [] w) i) r)

  dir_there :
      (last : Option Direction) (x : Place S) (r : List ℕ) → lawful x.entry.direction ≡ true → follows last x.entry.direction ≡ true
      → x.entry.cause ≤ most_cause → dir_reader C n P Q last (dir_text K C P Q x r) ≡ done (trimmed_place K P Q x) r
  dir_there last x r l f small =
      then_done _ (direction_there n last x.entry.direction _ l f refl)
      (then_done _ (held_there x (text "))" ++ (10 ∷ r)) _ small refl) refl)

  places_there :
      (last : Option Direction) (room : ℕ) (xs : List (Place S)) → Steps last (map (λ x. x.entry) xs)
      → All (λ x. x.entry.cause ≤ most_cause) xs → length xs ≤ room → (is_first last ≡ true → 1 ≤ length xs)
      → places_reader C n P Q last room (places_text K C P Q xs) ≡ done (map (trimmed_place K P Q) xs) []
  places_there None zero [] s a k f = absurd (omega (arith, f refl))
  places_there None (suc room) [] s a k f = absurd (omega (arith, f refl))
  places_there (Some d) zero [] s a k f = refl
  places_there (Some d) (suc room) [] s a k f = refl
  places_there last zero (x ∷ xs) s a k f = absurd (omega arith)
  places_there last (suc room) (x ∷ xs) s a k f =
      then_done _ (dir_there last x (places_text K C P Q xs) s.0 s.1 a.0)
      (then_done _ (places_there (Some x.entry.direction) room xs s.2 a.1 (omega arith) (λ e. let z : ◌≡◌ {A = ℕ} 0 1 = cc in absurd (omega arith))) refl)

module _ {S : Type 0} (K : Operations S) (C : Codes S) where
  file_there :
      (n : ℕ) (m : Meaning S) → IsWord C.name → Lawful (shape_of m) → Causes m
      → file_reader C n (file_text K C m) ≡ done (trimmed K m) []
  file_there n m i l a =
      let p = lawful_parts (shape_of m) l in
      let count = length-map m.places (λ x. x.entry) in
      then_done _ (head_there C.name n m.P m.Q (places_text K C m.P m.Q m.places) i p.wide p.high)
      (then_done _ (places_there K C n m.P m.Q None most_places m.places p.each a (omega (arith, p.count)) (λ _. omega (arith, p.count))) refl)

  pub reads_back : IsWord C.name → ReadsBack K C
  reads_back i m l a = ap (told (file_text K C m)) (file_there (length (file_text K C m)) m i l a)
