-- What a file answers is what its meaning answers.
use Rattle.std.proofs.Common.{◌≡◌, ℕ, zero, suc, ◌+◌, ◌*◌, ◌<◌, ◌≤◌, min, true, false, cond, ltb, List, [], ◌∷◌, map, length, get_or, slice_get, take, drop, is_some, Some, None, Option, unwrap_or, sym, refl, ap, ◌∙◌, ⊎_elim, arith}
use Rattle.std.proofs.lemmas.List.FromFn.{get_or-map-range_with_len}
use Rattle.std.proofs.lemmas.List.{length-map, get_or-map, drop_all, drop-drop}
use Rattle.std.proofs.lemmas.Nat.{mul-le}
use Rattle.std.proofs.lemmas.Option.{none-some, slice_get_cases, slice_get_within, get_or_from_slice_get}
use Rattle.std.proofs.lemmas.Bool.{cond-true, cond-false, ne_eqb, lt-ltb, le-ltb, cases_lt}
use Rattle.samples.specs.declared.coded.Coded.{Ghosts as Codes}
use Rattle.samples.specs.declared.kind.Kind.{Ghosts as Operations}
use Rattle.samples.specs.Reading.{read_code}
use Rattle.mojette.specs.declared.direction.Direction.{Direction}
use Rattle.mojette.specs.declared.direction.Record.{Record}
use Rattle.mojette.specs.declared.size.Size.{Size}
use Rattle.mojette.specs.Bins.{bins, whole}
use Rattle.mojette.specs.Bounds.{most_bins}
use Rattle.mojette.specs.Directions.{lawful}
use Rattle.mojette.specs.Faults.{Outcome, served, refuses}
use Rattle.mojette.specs.Meaning.{Place, Meaning, verdict}
use Rattle.mojette.specs.Refusals.{refusal}
use Rattle.mojette.proofs.Bounds.{bins_most}
use Rattle.format.proofs.OfPlaces.{Steps, lawful_parts}
use Rattle.source.specs.Questions.{no_place, asked_place, asked_bin}
use Rattle.bracket.specs.declared.line.Held.{Held}
use Rattle.bracket.specs.declared.line.Held.TheVariants.{Bins}
use Rattle.bracket.specs.declared.line.Line.{Line}
use Rattle.bracket.specs.Found.{found_at, found_from}
use Rattle.bracket.specs.Lines.{cause_of, record_of, place_from}
use Rattle.bracket.specs.Means.{meaning_from, shape_from}

drop_min : (o : ℕ) (t : List ℕ) → drop (min o (length t)) t ≡ drop o t
drop_min o t =
    ⊎_elim
    (λ h. let e : min o (length t) ≡ o = omega arith in ap (λ j. drop j t) e)
    (λ h. drop_all (min o (length t)) t (omega arith) ∙ sym (drop_all o t h))
    (cases_lt o (length t))

none_beyond : {A : Type 0} (xs : List A) (i : ℕ) → slice_get xs i ≡ None → length xs ≤ i
none_beyond xs i h = ⊎_elim (λ l. absurd (none-some l.0 (sym h ∙ l.2))) (λ r. r.0) (slice_get_cases xs i).1

-- what the question about bin b is answered at a place
abbrev asked_in : {S : Type 0} → Operations S → ℕ → ℕ → Place S → ℕ → Outcome S
asked_in K P Q x b =
    cond (whole x.entry)
    (cond (ltb b (bins P Q x.entry.direction)) (served (get_or x.sums b K.zero)) (refuses (refusal 18 0 0 0)))
    (refuses (refusal 17 x.entry.cause 0 0))

module _ {S : Type 0} (K : Operations S) (C : Codes S) (t : List ℕ) (z : Size) (lines : List Line) (i : ℕ) where
  abbrev m : Meaning S
  m = meaning_from K C t z lines

  -- No line i.
  module _ (none : slice_get lines i ≡ None) where
    beyond : ltb i (length m.places) ≡ false
    beyond = le-ltb i (length m.places) (omega (arith, length-map lines (place_from K C t z), none_beyond lines i none))

    pub no_place_asked : asked_place m i ≡ refuses (refusal 16 0 0 0)
    no_place_asked = cond-false _ _ _ beyond

    pub no_bin_asked : (b : ℕ) → asked_bin K m i b ≡ refuses (refusal 16 0 0 0)
    no_bin_asked b = cond-false _ _ _ beyond

  -- Line i.
  module _ (x : Line) (at : slice_get lines i ≡ Some x) where
    within : i < length lines
    within = slice_get_within lines i x at

    inside : ltb i (length m.places) ≡ true
    inside = lt-ltb i (length m.places) (omega (arith, length-map lines (place_from K C t z), within))

    placed : get_or m.places i no_place ≡ place_from K C t z x
    placed = get_or-map (place_from K C t z) lines i x no_place within ∙ ap (place_from K C t z) (get_or_from_slice_get lines i x x at)

    abbrev B : ℕ
    B = bins z.columns z.rows x.direction

    -- what a bin of a line answers
    abbrev asked : ℕ → Held → Outcome S
    asked b h = asked_in K z.columns z.rows (place_from K C t z (record { direction = x.direction; held = h })) b

    asked_here : (b : ℕ) → asked_bin K m i b ≡ asked b x.held
    asked_here b = cond-true (ltb i (length m.places)) _ _ inside ∙ ap (λ y. asked_in K z.columns z.rows y b) placed

    pub entry_asked : asked_place m i ≡ served (record_of x)
    entry_asked = cond-true (ltb i (length m.places)) _ _ inside ∙ ap (λ y. served y.entry) placed

    pub lost_asked : (b c : ℕ) → cause_of x.held ≡ c → 0 < c → asked_bin K m i b ≡ refuses (refusal 17 c 0 0)
    lost_asked b c e some =
        asked_here b ∙ cond-false _ _ _ (ne_eqb (cause_of x.held) 0 (λ none. omega (arith, some, e, none)))
        ∙ ap {B = Outcome S} (λ n. refuses (refusal 17 n 0 0)) e

    pub past_asked : (b o : ℕ) → x.held ≡ Bins o → B ≤ b → asked_bin K m i b ≡ refuses (refusal 18 0 0 0)
    past_asked b o y h = asked_here b ∙ ap (asked b) y ∙ cond-false (ltb b B) _ _ (le-ltb b B h)

    -- what is found in the text from where the codes of the place begin
    pub found_asked :
        (b o begin byte : ℕ) (rest : List ℕ) → x.held ≡ Bins o → b < B → begin ≡ min o (length t) → rest ≡ drop begin t
        → byte ≡ b * suc C.width + 1 → asked_bin K m i b ≡ served (found_at K C rest byte)
    found_asked b o begin byte rest y h e r s =
        let w = C.width in
        let j : o + (b * suc w + 1) ≡ o + b * suc w + 1 = omega arith in
        let part : drop byte rest ≡ drop (o + b * suc w + 1) t =
        (λ i. drop (s i) (r i)) ∙ ap (drop (b * suc w + 1)) (ap (λ k. drop k t) e ∙ drop_min o t) ∙ drop-drop (b * suc w + 1) o t ∙ ap (λ k. drop k t) j in
        let sum : get_or (found_from K C t o B) b K.zero ≡ found_at K C t (o + b * suc w + 1) = get_or-map-range_with_len _ 0 _ b b K.zero h (omega arith) in
        asked_here b
        ∙ ap (asked b) y
        ∙ cond-true (ltb b B) _ _ (lt-ltb b B h)
        ∙ ap {B = Outcome S} served sum
        ∙ sym (ap {B = Outcome S} (λ d. served (unwrap_or (read_code C (take w d)) K.zero)) part)

-- The bounds of a lawful layout -------------------------------------------------------------------------------------

none_from : {A : Type 0} (o : Option A) → is_some o ≡ false → o ≡ None
none_from None h = refl
none_from (Some a) h = let z : ◌≡◌ {A = ℕ} 0 1 = cc in absurd (omega arith)

steps_at : (last : Option Direction) (es : List Record) (i : ℕ) (d : Record) → Steps last es → i < length es → lawful (get_or es i d).direction ≡ true
steps_at last [] i d s h = absurd (omega arith)
steps_at last (e ∷ es) zero d s h = s.0
steps_at last (e ∷ es) (suc i) d s h = steps_at (Some e.direction) es i d s.2 (omega arith)

-- the bins of a line in a lawful layout
pub few_bins :
    (z : Size) (lines : List Line) (i : ℕ) (x : Line) → slice_get lines i ≡ Some x → is_some (verdict (shape_from z lines)) ≡ false
    → bins z.columns z.rows x.direction ≤ most_bins
few_bins z lines i x at l =
    let h = slice_get_within lines i x at in
    let p = lawful_parts (shape_from z lines) (none_from _ l) in
    let k : i < length (map record_of lines) = omega (arith, length-map lines record_of) in
    let law = ap (λ e. lawful e.direction) (sym (get_or-map record_of lines i x (record_of x) h ∙ ap record_of (get_or_from_slice_get lines i x x at))) ∙ steps_at None (map record_of lines) i (record_of x) p.each k in
    bins_most x.direction law z.columns z.rows z.few_columns z.few_rows

-- where the code of a bin stands in the codes of its place, each of 12 digits at most and a space
pub few_bytes : (b count digits width : ℕ) → b < count → count ≤ most_bins → digits ≡ width → width ≤ 12 → b * (digits + 1) ≤ most_bins * 13
few_bytes b count digits width h l e w = mul-le b (digits + 1) most_bins 13 (omega arith) (omega arith)
