-- Places laid out one after another.
use Rattle.std.proofs.Common.{◌≡◌, ℕ, zero, suc, ◌+◌, ◌<◌, ◌≤◌, true, false, leb, ◌&&◌, ◌⊎◌, List, [], ◌∷◌, ◌++◌, length, get_or, take, Some, None, Option, sym, refl, ap, ◌∙◌, subst, inl, inr, add-zero, zero-add, arith}
use Rattle.std.proofs.lemmas.List.{take_all}
use Rattle.std.proofs.lemmas.Bool.{cond-true, cond-false, cases_Bool, and_from, and_left, and_right, le-leb, lt-leb}
use Rattle.mojette.specs.declared.direction.Direction.{Direction}
use Rattle.mojette.specs.declared.direction.Record.{Record}
use Rattle.mojette.specs.Bins.{bins, start, all_bins}
use Rattle.mojette.specs.Bounds.{most_places}
use Rattle.mojette.specs.Directions.{lawful}
use Rattle.mojette.specs.Meaning.{side_ok, sides_verdict, follows, places_verdict, Shape, verdict}
use Rattle.mojette.specs.Refusals.{Refusal, refusal}
use Rattle.plan.specs.declared.places.Place.{Place}
use Rattle.plan.specs.Laid.{laid, direction_of, records_of, place_at, Starts, Sizes}
use Rattle.plan.specs.Layouts.{laid_out}
use Rattle.plan.proofs.Cells.{laid_direction}
use Rattle.plan.proofs.Verdicts.{no_record}

-- Records without a refusal are lawful ---------------------------------------------------------------------------------

all_right : (i : ℕ) (last : Option Direction) (e : Record) (es : List Record) → places_verdict i last (e ∷ es) ≡ None → (lawful e.direction ≡ true) × (places_verdict (suc i) (Some e.direction) es ≡ None)
all_right i last e es h = go (cases_Bool (lawful e.direction)) (cases_Bool (follows last e.direction))
  where
    never : (n m : ℕ) → Some (refusal n m 0 0) ≡ None → ⊥
    never n m z = let y : ◌≡◌ {A = ℕ} 0 1 = cc in omega arith

    go :
        (lawful e.direction ≡ true) ⊎ (lawful e.direction ≡ false) → (follows last e.direction ≡ true) ⊎ (follows last e.direction ≡ false)
        → (lawful e.direction ≡ true) × (places_verdict (suc i) (Some e.direction) es ≡ None)
    go (inr a) b = absurd (never 3 i (sym (cond-false _ _ _ a) ∙ h))
    go (inl a) (inr b) = absurd (never 4 i (sym (cond-true _ _ _ a ∙ cond-false _ _ _ b) ∙ h))
    go (inl a) (inl b) = (a, sym (cond-true _ _ _ a ∙ cond-true _ _ _ b) ∙ h)

pub lawful_at : (i : ℕ) (last : Option Direction) (es : List Record) → places_verdict i last es ≡ None → (j : ℕ) → j < length es → lawful (get_or es j no_record).direction ≡ true
lawful_at i last [] h j l = absurd (omega arith)
lawful_at i last (e ∷ es) h zero l = (all_right i last e es h).0
lawful_at i last (e ∷ es) h (suc j) l = lawful_at (suc i) (Some e.direction) es (all_right i last e es h).1 j (omega arith)

-- One place more --------------------------------------------------------------------------------------------------------

module _ (P Q : ℕ) where
  abbrev B : Record → ℕ
  B e = bins P Q e.direction

  pub bins_more : (es : List Record) (e : Record) → all_bins P Q (es ++ (e ∷ [])) ≡ all_bins P Q es + B e
  bins_more [] e = omega arith
  bins_more (x ∷ es) e = let h = bins_more es e in omega arith

  pub out_more : (at : ℕ) (es : List Record) (e : Record) → laid_out P Q at (es ++ (e ∷ [])) ≡ laid_out P Q at es ++ (laid P Q e (at + all_bins P Q es) ∷ [])
  out_more at [] e = ap (λ n. laid P Q e n ∷ []) (sym (add-zero at))
  out_more at (x ∷ es) e =
      let f : at + B x + all_bins P Q es ≡ at + (B x + all_bins P Q es) = omega arith in
      ap (λ s. laid P Q x at ∷ s) (out_more (at + B x) es e ∙ ap (λ n. laid_out P Q (at + B x) es ++ (laid P Q e n ∷ [])) f)

  length-out : (at : ℕ) (es : List Record) → length (laid_out P Q at es) ≡ length es
  length-out at [] = refl
  length-out at (e ∷ es) = ap suc (length-out (at + B e) es)

  -- What is laid out stands for its records.
  abbrev Right : List Record → Type 0
  Right es = (j : ℕ) → j < length es → lawful (get_or es j no_record).direction ≡ true

  direction_back : (e : Record) (es : List Record) (at : ℕ) → Right (e ∷ es) → direction_of (laid P Q e at) ≡ e.direction
  direction_back e es at right = laid_direction P Q e at (right 0 (omega arith))

  rest : (e : Record) (es : List Record) → Right (e ∷ es) → Right es
  rest e es right j l = right (suc j) (omega arith)

  out_records : (at : ℕ) (es : List Record) → Right es → records_of (laid_out P Q at es) ≡ es
  out_records at [] right = refl
  out_records at (e ∷ es) right =
      λ i. record { direction = direction_back e es at right i; cause = e.cause } ∷ out_records (at + B e) es (rest e es right) i

  out_starts : (at : ℕ) (es : List Record) → Right es → (i : ℕ) → i < length es → (place_at (laid_out P Q at es) i).start ≡ at + start P Q (records_of (laid_out P Q at es)) i
  out_starts at [] right i l = absurd (omega arith)
  out_starts at (e ∷ es) right zero l = sym (add-zero at)
  out_starts at (e ∷ es) right (suc i) l =
      let h = out_starts (at + B e) es (rest e es right) i (omega arith) in
      let size = ap (bins P Q) (direction_back e es at right) in
      omega arith

  out_sizes : (at : ℕ) (es : List Record) → Right es → (i : ℕ) → i < length es → (place_at (laid_out P Q at es) i).bins ≡ bins P Q (direction_of (place_at (laid_out P Q at es) i))
  out_sizes at [] right i l = absurd (omega arith)
  out_sizes at (e ∷ es) right zero l = ap (bins P Q) (sym (direction_back e es at right))
  out_sizes at (e ∷ es) right (suc i) l = out_sizes (at + B e) es (rest e es right) i (omega arith)

-- The invariant of a plan of these records, whose places are laid out.
pub record Stands (P Q : ℕ) (es : List Record) (xs : List Place) : Type 0 where
  pub same : records_of xs ≡ es
  pub starts : Starts P Q xs
  pub sizes : Sizes P Q xs
  pub full : all_bins P Q es ≡ all_bins P Q (records_of xs)

pub stands : (P Q : ℕ) (es : List Record) (xs : List Place) → places_verdict 0 None es ≡ None → xs ≡ laid_out P Q 0 es → Stands P Q es xs
stands P Q es xs right out =
    let each = lawful_at 0 None es right in
    let same : records_of xs ≡ es = ap records_of out ∙ out_records P Q 0 es each in
    let size : length xs ≡ length es = ap length out ∙ length-out P Q 0 es in
    record {
      same = same;
      starts = λ i l. subst (λ ys. (place_at ys i).start ≡ start P Q (records_of ys) i) (sym out) (out_starts P Q 0 es each i (omega arith) ∙ zero-add (start P Q (records_of (laid_out P Q 0 es)) i));
      sizes = λ i l. subst (λ ys. (place_at ys i).bins ≡ bins P Q (direction_of (place_at ys i))) (sym out) (out_sizes P Q 0 es each i (omega arith));
      full = ap (all_bins P Q) (sym same);
    }

-- the same where a loop over the records has come to its end
pub stands_at_end :
    (P Q i : ℕ) (es : List Record) (places : List Place) → places_verdict 0 None es ≡ None → i ≡ length es
    → take i places ≡ laid_out P Q 0 (take i es) → Stands P Q es (take (length es) places)
stands_at_end P Q i es places right end out =
    stands P Q es (take (length es) places) right
    (subst (λ n. take n places ≡ laid_out P Q 0 (take n es)) end out ∙ ap (laid_out P Q 0) (take_all (length es) es (omega arith)))

-- The verdict on a shape, by the first check that fails.
module _ (P Q : ℕ) (es : List Record) where
  abbrev s : Shape
  s = record { P = P; Q = Q; records = es }

  pub wrong_size : (r : Refusal) → Some r ≡ sides_verdict P Q → verdict s ≡ Some r
  unfolding verdict
  wrong_size r e = go (cases_Bool (side_ok P && side_ok Q))
    where
      go : (side_ok P && side_ok Q ≡ true) ⊎ (side_ok P && side_ok Q ≡ false) → verdict s ≡ Some r
      go (inl right) = absurd (let never : Some r ≡ None = e ∙ cond-true _ _ _ right in cc never)
      go (inr wrong) = cond-false _ _ _ wrong ∙ sym (cond-false _ _ _ wrong) ∙ sym e

  module _ (p : side_ok P ≡ true) (q : side_ok Q ≡ true) where
    pub wrong_number : (length es < 1) ⊎ (most_places < length es) → verdict s ≡ Some (refusal 2 0 0 0)
    unfolding verdict
    wrong_number (inl n) = cond-true _ _ _ (and_from _ _ p q) ∙ cond-false _ _ _ (and_left (leb 1 (length es)) _ (lt-leb 1 (length es) n))
    wrong_number (inr n) = cond-true _ _ _ (and_from _ _ p q) ∙ cond-false _ _ _ (and_right (leb 1 (length es)) _ (lt-leb (length es) most_places n))

    pub by_places : 1 ≤ length es → length es ≤ most_places → verdict s ≡ places_verdict 0 None es
    unfolding verdict
    by_places some few = cond-true _ _ _ (and_from _ _ p q) ∙ cond-true _ _ _ (and_from _ _ (le-leb 1 (length es) some) (le-leb (length es) most_places few))
