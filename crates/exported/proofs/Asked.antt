-- The sums that a file is asked for are the run of a rack that means what the file means.
use Rattle.std.proofs.Common.{◌≡◌, ℕ, zero, suc, ◌+◌, ◌-◌, ◌<◌, ◌≤◌, Bool, true, false, cond, eqb, ltb, List, [], ◌∷◌, ◌++◌, map, length, take, drop, get_or, sym, refl, ap, ◌∙◌, subst, arith}
use Rattle.std.specs.List.{range_with_len}
use Rattle.std.proofs.Math.Seq.{take-append_seam, drop-append_seam}
use Rattle.std.proofs.lemmas.Bool.{cond-true, eq-eqb, ltb-true, ltb-false}
use Rattle.std.proofs.lemmas.List.{length-map, length-append, length-take-le, get_or-take, get_or_append_left, get_or-append_right, ext_get_or}
use Rattle.std.proofs.lemmas.List.FromFn.{length-range_with_len, get_or-map-range_with_len}
use Rattle.samples.specs.declared.kind.Kind.{Ghosts as Operations}
use Rattle.samples.specs.declared.words.SumWord.{SumWord}
use Rattle.samples.specs.contracts.impls.SumWordKind.TheImpl.{ghosts as sum_operations}
use Rattle.samples.specs.contracts.codes.SumWordCoded.TheImpl.{ghosts as sum_codes}
use Rattle.mojette.specs.Bins.{bins, whole, all_bins}
use Rattle.mojette.specs.Faults.{served, refuses}
use Rattle.mojette.specs.Meaning.{Meaning, Place, Lawful, shape_of, bins_of}
use Rattle.mojette.specs.Refusals.{refusal}
use Rattle.law.specs.Positions.{whole_at, sum_at}
use Rattle.law.proofs.Agreement.{records}
use Rattle.law.proofs.Loading.{Loaded, one_more, length-with_place, all_loaded}
use Rattle.source.specs.Questions.{checked}
use Rattle.source.specs.Racks.{placed, cut, rack_meaning, racking}
use Rattle.format.specs.Format.{Read, file, refused, read_file}
use Rattle.format.specs.Laws.{OneText, ToldBy}
use Rattle.format.specs.Texts.{bin_sums, trimmed_place, trimmed}
use Rattle.bracket.specs.Files.{asked_file}
use Rattle.exported.specs.Reading.{laid, loading, MeansTheFile}
use Rattle.exported.specs.Told.{told}
use Rattle.exported.proofs.Beyond.{ending}

-- The run of a list of places ---------------------------------------------------------------------------------------

module _ {S : Type 0} (K : Operations S) (P Q : ℕ) where
  abbrev B : Place S → ℕ
  B x = bins P Q x.entry.direction

  -- what a place's positions hold once it is loaded
  abbrev value_in : Place S → ℕ → S
  value_in x b = cond (whole x.entry) (get_or x.sums b K.zero) K.zero

  abbrev values : Place S → List S
  values x = map (value_in x) (range_with_len 0 (B x))

  abbrev run_of : List (Place S) → List S
  run_of [] = []
  run_of (x ∷ xs) = values x ++ run_of xs

  length-values : (x : Place S) → length (values x) ≡ B x
  length-values x = length-map (range_with_len 0 (B x)) (value_in x) ∙ length-range_with_len 0 (B x)

  length-run_of : (xs : List (Place S)) → length (run_of xs) ≡ all_bins P Q (records xs)
  length-run_of [] = refl
  length-run_of (x ∷ xs) = let more = length-run_of xs in omega (arith, length-append (values x) (run_of xs), length-values x)

  get_or-run_of : (xs : List (Place S)) (i : ℕ) → i < all_bins P Q (records xs) →
      get_or (run_of xs) i K.zero ≡ cond (whole_at P Q (records xs) i) (sum_at P Q K.zero xs i) K.zero
  unfolding whole_at sum_at
  get_or-run_of [] i l = absurd (omega arith)
  get_or-run_of (x ∷ xs) i l = go (ltb i (B x)) refl (get_or-run_of xs (i - B x))
    where
      go : (t : Bool) → ltb i (B x) ≡ t →
          (i - B x < all_bins P Q (records xs) → get_or (run_of xs) (i - B x) K.zero ≡ cond (whole_at P Q (records xs) (i - B x)) (sum_at P Q K.zero xs (i - B x)) K.zero) →
          get_or (values x ++ run_of xs) i K.zero
          ≡ cond (cond t (whole x.entry) (whole_at P Q (records xs) (i - B x))) (cond t (get_or x.sums i K.zero) (sum_at P Q K.zero xs (i - B x))) K.zero
      go true e later =
          let near = ltb-true i (B x) e in
          get_or_append_left (values x) (run_of xs) K.zero i (omega (arith, length-values x)) ∙ get_or-map-range_with_len (value_in x) 0 (B x) i i K.zero near (omega arith)
      go false e later =
          let far = ltb-false i (B x) e in
          get_or-append_right (values x) (run_of xs) (B x) i K.zero (length-values x) far ∙ later (omega arith)

  -- the part of a place as a file tells it
  told_part : (x : Place S) → placed x.entry (values x) ≡ trimmed_place K P Q x
  told_part x = ap (λ sums. record { entry = x.entry; sums = sums }) (go (whole x.entry))
    where
      go : (t : Bool) → cond t (map (λ b. cond t (get_or x.sums b K.zero) K.zero) (range_with_len 0 (B x))) [] ≡ cond t (bin_sums K P Q x) []
      go true = refl
      go false = refl

  cut-run_of : (xs : List (Place S)) → cut P Q (records xs) (run_of xs) ≡ map (trimmed_place K P Q) xs
  cut-run_of [] = refl
  cut-run_of (x ∷ xs) =
      (λ i. placed x.entry (first i) ∷ cut P Q (records xs) (rest i)) ∙ (λ i. told_part x i ∷ cut-run_of xs i)
    where
      first : take (B x) (values x ++ run_of xs) ≡ values x
      first = ap (λ n. take n (values x ++ run_of xs)) (sym (length-values x)) ∙ take-append_seam (values x) (run_of xs)

      rest : drop (B x) (values x ++ run_of xs) ≡ run_of xs
      rest = ap (λ n. drop n (values x ++ run_of xs)) (sym (length-values x)) ∙ drop-append_seam (values x) (run_of xs)

-- A rack of that run means what the file means.
rack_is : {S : Type 0} (K : Operations S) (m : Meaning S) → Lawful (shape_of m) → trimmed K m ≡ m → racking m.P m.Q (shape_of m).records (run_of K m.P m.Q m.places) ≡ served m
rack_is K m lawful trim =
    ap (λ o. checked o (cond (eqb (length (run_of K m.P m.Q m.places)) (bins_of (shape_of m))) (served (rack_meaning m.P m.Q (shape_of m).records (run_of K m.P m.Q m.places)))
    (refuses (refusal 19 (bins_of (shape_of m)) 0 0)))) lawful
    ∙ cond-true _ _ _ (eq-eqb _ _ (length-run_of K m.P m.Q m.places))
    ∙ ap (λ places. served (record { P = m.P; Q = m.Q; places = places })) (cut-run_of K m.P m.Q m.places)
    ∙ ap served trim

-- What is loaded is that run ----------------------------------------------------------------------------------------

module _ (m : Meaning SumWord) (sums : List SumWord) (long : bins_of (shape_of m) ≤ length sums) where
  -- The first n places are loaded.
  record Laid (n : ℕ) : Type 0 where
    size : length (laid m n sums) ≡ length sums
    is : Loaded sum_operations m n (laid m n sums)

  laid_so : (n : ℕ) → n ≤ length m.places → Laid n
  laid_so zero l = record { size = refl; is = λ x k. absurd (omega arith) }
  laid_so (suc n) l =
      let before = laid_so n (omega arith) in
      let room : bins_of (shape_of m) ≤ length (laid m n sums) = omega (arith, before.size) in
      let one : n + 1 ≡ suc n = omega arith in
      record {
        size = length-with_place sum_operations m n (omega arith) (laid m n sums) room ∙ before.size;
        is = subst (λ k. Loaded sum_operations m k (laid m (suc n) sums)) one (one_more sum_operations m n (omega arith) (laid m n sums) room before.is);
      }

  taken : take (bins_of (shape_of m)) (laid m (length m.places) sums) ≡ run_of sum_operations m.P m.Q m.places
  taken =
      let all = laid_so (length m.places) (omega arith) in
      let size : length (take (bins_of (shape_of m)) (laid m (length m.places) sums)) ≡ bins_of (shape_of m) =
      length-take-le (bins_of (shape_of m)) (laid m (length m.places) sums) (omega (arith, all.size)) in
      ext_get_or sum_operations.zero _ _ (size ∙ sym (length-run_of sum_operations m.P m.Q m.places))
      (λ i l.
      let within : i < bins_of (shape_of m) = omega (arith, size) in
      get_or-take (bins_of (shape_of m)) (laid m (length m.places) sums) i sum_operations.zero within
      ∙ all_loaded sum_operations m (laid m (length m.places) sums) all.is i within
      ∙ sym (get_or-run_of sum_operations m.P m.Q m.places i within))

-- A file that is asked and served -----------------------------------------------------------------------------------

pub asked_rack : (text : List ℕ) → OneText sum_operations sum_codes → (sums : List SumWord) →
    (told (loading (asked_file (read_file sum_codes text)) sums).answer).1.number ≡ 0 →
    MeansTheFile (asked_file (read_file sum_codes text))
    (take (told (loading (asked_file (read_file sum_codes text)) sums).answer).0 (loading (asked_file (read_file sum_codes text)) sums).sums)
asked_rack text law sums = go (read_file sum_codes text) (law.writes_back text)
  where
    served_so : (m : Meaning SumWord) → ToldBy sum_operations sum_codes text m → (c : Bool) → ltb (length sums) (bins_of (shape_of m)) ≡ c →
        (told (ending m sums c).answer).1.number ≡ 0 → MeansTheFile (served m) (take (told (ending m sums c).answer).0 (ending m sums c).sums)
    served_so m by true e zero_number = absurd (omega arith)
    served_so m by false e zero_number =
        ap (racking m.P m.Q (shape_of m).records) (taken m sums (ltb-false _ _ e)) ∙ rack_is sum_operations m by.lawful by.trim

    go : (r : Read SumWord) → ((m : Meaning SumWord) → r ≡ file m → ToldBy sum_operations sum_codes text m) →
        (told (loading (asked_file r) sums).answer).1.number ≡ 0 →
        MeansTheFile (asked_file r) (take (told (loading (asked_file r) sums).answer).0 (loading (asked_file r) sums).sums)
    go (refused line byte why) by zero_number = absurd (omega arith)
    go (file m) by zero_number = served_so m (by m refl) (ltb (length sums) (bins_of (shape_of m))) refl zero_number
