-- Reading a written file gives a meaning that answers as the written one does.
use Rattle.std.proofs.Common.{◌≡◌, ℕ, ◌<◌, Bool, true, false, cond, ltb, List, [], ◌++◌, length, get_or, take, drop, Some, None, Option, sym, refl, ap, ◌∙◌, subst, arith}
use Rattle.std.proofs.lemmas.Bool.{cond-true, ltb-true}
use Rattle.std.proofs.lemmas.List.{get_or-map, length-map, take_at}
use Rattle.std.proofs.lemmas.List.FromFn.{get_or-map-range_with_len}
use Rattle.samples.specs.declared.coded.Coded.{Ghosts as Codes}
use Rattle.samples.specs.declared.kind.Kind.{Ghosts as Operations}
use Rattle.mojette.specs.Bins.{bins, whole}
use Rattle.mojette.specs.Faults.{Outcome, served, refuses}
use Rattle.mojette.specs.Meaning.{Place, Meaning, shape_of, verdict, Lawful}
use Rattle.mojette.specs.Refusals.{Refusal, refusal}
use Rattle.source.specs.Questions.{no_place, place_at, asked_place, asked_bin}
use Rattle.format.specs.Laws.{Causes, ReadsBack}
use Rattle.format.specs.Texts.{bin_sums, trimmed_place, trimmed, file_text}
use Rattle.writing.specs.Files.{unless, file_filling}
use Rattle.writing.specs.ReadBack.{AnswersAs}
use Rattle.writing.specs.Splices.{filling}

-- what a test lets through counts only where it passes
where_true : {A : Type 0} (b : Bool) (x y z : A) → (b ≡ true → x ≡ y) → cond b x z ≡ cond b y z
where_true true x y z h = h refl
where_true false x y z h = refl

-- What a file tells of a meaning answers as the meaning does.
module _ {S : Type 0} (K : Operations S) (m : Meaning S) where
  count : length (trimmed K m).places ≡ length m.places
  count = length-map m.places (trimmed_place K m.P m.Q)

  placed : (i : ℕ) → i < length m.places → place_at (trimmed K m) i ≡ trimmed_place K m.P m.Q (place_at m i)
  placed i h = get_or-map (trimmed_place K m.P m.Q) m.places i no_place no_place h

  place_told : (i : ℕ) → asked_place (trimmed K m) i ≡ asked_place m i
  place_told i =
      ap (λ n. cond (ltb i n) (served (place_at (trimmed K m) i).entry) (refuses (refusal 16 0 0 0))) count
      ∙ where_true (ltb i (length m.places)) _ _ _ (λ h. ap (λ x. served x.entry) (placed i (ltb-true i _ h)))

  -- bin b of a place
  abbrev asked_in : Place S → ℕ → Outcome S
  asked_in x b =
      cond (whole x.entry)
      (cond (ltb b (bins m.P m.Q x.entry.direction)) (served (get_or x.sums b K.zero)) (refuses (refusal 18 0 0 0)))
      (refuses (refusal 17 x.entry.cause 0 0))

  bin_in : (x : Place S) (b : ℕ) → asked_in (trimmed_place K m.P m.Q x) b ≡ asked_in x b
  bin_in x b =
      where_true (whole x.entry) _ _ _ λ w.
      where_true (ltb b (bins m.P m.Q x.entry.direction)) _ _ _ λ h.
      ap {B = Outcome S} served (ap (λ s. get_or s b K.zero) (cond-true (whole x.entry) (bin_sums K m.P m.Q x) [] w)
      ∙ get_or-map-range_with_len _ 0 _ b b K.zero (ltb-true b _ h) (omega arith))

  bin_told : (i b : ℕ) → asked_bin K (trimmed K m) i b ≡ asked_bin K m i b
  bin_told i b =
      ap (λ n. cond (ltb i n) (asked_in (place_at (trimmed K m) i) b) (refuses (refusal 16 0 0 0))) count
      ∙ where_true (ltb i (length m.places)) _ _ _ (λ h. ap (λ x. asked_in x b) (placed i (ltb-true i _ h)) ∙ bin_in (place_at m i) b)

module _ {S : Type 0} (K : Operations S) (C : Codes S) (law : ReadsBack K C) (m : Meaning S) (causes : Causes m) where
  -- the text of a lawful meaning
  text_read : Lawful (shape_of m) → (t : List ℕ) → t ≡ file_text K C m → AnswersAs K C m t
  text_read l t e = subst (AnswersAs K C m) (sym e) (record {
    read = trimmed K m;
    is_file = law m l causes;
    sizes = λ i. record { columns = m.P; rows = m.Q; places = count K m i };
    place = place_told K m;
    bin = bin_told K m;
  })

  module _ (n : ℕ) (out last : List ℕ) where
    filled_read : Lawful (shape_of m) → ◌≡◌ {A = Outcome ℕ × List ℕ} (served n, last) (filling (file_text K C m) out) → AnswersAs K C m (take n last)
    filled_read l h = go (ltb (length out) (length t)) h
      where
        t : List ℕ
        t = file_text K C m

        go :
            (b : Bool) → ◌≡◌ {A = Outcome ℕ × List ℕ} (served n, last) (cond b (refuses (refusal 21 (length t) 0 0), out) (served (length t), t ++ drop (length t) out))
            → AnswersAs K C m (take n last)
        go true e = let a = ap (λ v. v.0) e in let z : ◌≡◌ {A = ℕ} 0 1 = cc in absurd (omega arith)
        go false e =
            let a : served n ≡ served (length t) = ap (λ v. v.0) e in
            let same : n ≡ length t = cc in
            text_read l (take n last) ((λ i. take (same i) ((e i).1)) ∙ take_at t (drop (length t) out) (length t) refl)

    -- what a call that wrote a file left
    pub file_read : ◌≡◌ {A = Outcome ℕ × List ℕ} (served n, last) (file_filling K C m out) → AnswersAs K C m (take n last)
    file_read h = go (verdict (shape_of m)) refl h
      where
        go : (v : Option Refusal) → verdict (shape_of m) ≡ v → ◌≡◌ {A = Outcome ℕ × List ℕ} (served n, last) (unless v (file_text K C m) out) → AnswersAs K C m (take n last)
        go None l e = filled_read l e
        go (Some r) l e = let a = ap (λ v. v.0) e in let z : ◌≡◌ {A = ℕ} 0 1 = cc in absurd (omega arith)
