-- Which refusal a shape gets, and which place it tells.
use Rattle.std.proofs.Common.{◌≡◌, ℕ, zero, suc, ◌+◌, ◌-◌, ◌<◌, ◌≤◌, true, false, ◌&&◌, ◌⊎◌, List, [], ◌∷◌, length, Some, None, Option, Ok, Err, Result, sym, refl, ap, ◌∙◌, subst, inl, inr, zero-add, arith}
use Rattle.std.proofs.lemmas.Bool.{cond-true, cond-false, cases_Bool, both_ways, true≢false, and_parts, and_from}
use Rattle.mojette.specs.declared.direction.Direction.{Direction}
use Rattle.mojette.specs.declared.direction.Record.{Record}
use Rattle.mojette.specs.Bounds.{most_side, most_places}
use Rattle.mojette.specs.Directions.{lawful, before}
use Rattle.mojette.specs.declared.fault.Fault.{Fault}
use Rattle.mojette.specs.Faults.{refused}
use Rattle.mojette.specs.Meaning.{Shape, side_ok, number_ok, follows, places_verdict, verdict}
use Rattle.mojette.specs.Refusals.{Refusal, refusal}
use Rattle.mojette.proofs.Bounds.{within, is_within}
use Rattle.plan.specs.declared.plan.Plan.{Plan}
use Rattle.plan.specs.Layouts.{Plans}
use Rattle.plan.specs.Wrong.{direction_at, GoodBefore, FirstUnlawful, FirstDisorder, Sized, Counted, FirstWrong}

-- Refusals apart --------------------------------------------------------------------------------------------------

abbrev number_told : Option Refusal → ℕ
number_told None = 0
number_told (Some r) = r.number

abbrev place_told : Option Refusal → ℕ
place_told None = 0
place_told (Some r) = r.first

-- Places, one after another ---------------------------------------------------------------------------------------

-- Each of the first n places is lawful and comes after the one before; `last` comes before the first of all.
abbrev Good : Option Direction → List Record → ℕ → Type 0
Good last es zero = Unit {0}
Good last [] (suc n) = ⊥
Good last (e ∷ es) (suc n) = (lawful e.direction ≡ true) × (follows last e.direction ≡ true) × Good (Some e.direction) es n

-- the direction before place j
abbrev last_of : Option Direction → List Record → ℕ → Option Direction
last_of last es zero = last
last_of last [] (suc j) = last
last_of last (e ∷ es) (suc j) = last_of (Some e.direction) es j

record Unlawful (last : Option Direction) (es : List Record) (j : ℕ) : Type 0 where
  inside : j < length es
  good : Good last es j
  unlawful : lawful (direction_at es j) ≡ false

record Disorder (last : Option Direction) (es : List Record) (j : ℕ) : Type 0 where
  inside : j < length es
  good : Good last es j
  is_lawful : lawful (direction_at es j) ≡ true
  not_after : follows (last_of last es j) (direction_at es j) ≡ false

-- What the verdict of a place is, by its two tests.
module _ (k : ℕ) (last : Option Direction) (e : Record) (es : List Record) where
  passes : lawful e.direction ≡ true → follows last e.direction ≡ true → places_verdict k last (e ∷ es) ≡ places_verdict (suc k) (Some e.direction) es
  passes a b = cond-true _ _ _ a ∙ cond-true _ _ _ b

  unlawful_here : lawful e.direction ≡ false → places_verdict k last (e ∷ es) ≡ Some (refusal 3 k 0 0)
  unlawful_here a = cond-false _ _ _ a

  disorder_here : lawful e.direction ≡ true → follows last e.direction ≡ false → places_verdict k last (e ∷ es) ≡ Some (refusal 4 k 0 0)
  disorder_here a b = cond-true _ _ _ a ∙ cond-false _ _ _ b

-- What is told of a place is so.
tells_unlawful : (k : ℕ) (last : Option Direction) (es : List Record) (j : ℕ) → Unlawful last es j → places_verdict k last es ≡ Some (refusal 3 (k + j) 0 0)
tells_unlawful k last [] j u = let l = u.inside in absurd (omega arith)
tells_unlawful k last (e ∷ es) zero u = let z : k ≡ k + 0 = omega arith in unlawful_here k last e es u.unlawful ∙ ap (λ i. Some (refusal 3 i 0 0)) z
tells_unlawful k last (e ∷ es) (suc j) u =
    let z : suc k + j ≡ k + suc j = omega arith in
    let l : j < length es = let i = u.inside in omega arith in
    passes k last e es u.good.0 u.good.1
    ∙ tells_unlawful (suc k) (Some e.direction) es j (record { inside = l; good = u.good.2; unlawful = u.unlawful })
    ∙ ap (λ i. Some (refusal 3 i 0 0)) z

tells_disorder : (k : ℕ) (last : Option Direction) (es : List Record) (j : ℕ) → Disorder last es j → places_verdict k last es ≡ Some (refusal 4 (k + j) 0 0)
tells_disorder k last [] j u = let l = u.inside in absurd (omega arith)
tells_disorder k last (e ∷ es) zero u = let z : k ≡ k + 0 = omega arith in disorder_here k last e es u.is_lawful u.not_after ∙ ap (λ i. Some (refusal 4 i 0 0)) z
tells_disorder k last (e ∷ es) (suc j) u =
    let z : suc k + j ≡ k + suc j = omega arith in
    let l : j < length es = let i = u.inside in omega arith in
    passes k last e es u.good.0 u.good.1
    ∙ tells_disorder (suc k) (Some e.direction) es j (record { inside = l; good = u.good.2; is_lawful = u.is_lawful; not_after = u.not_after })
    ∙ ap (λ i. Some (refusal 4 i 0 0)) z

-- and no other is told.
is_unlawful : (k i : ℕ) (last : Option Direction) (es : List Record) → places_verdict k last es ≡ Some (refusal 3 i 0 0) → (j : ℕ) × (i ≡ k + j) × Unlawful last es j
is_unlawful k i last [] v = absurd (let z : 0 ≡ 3 = ap number_told v in omega arith)
is_unlawful k i last (e ∷ es) v = go (is_unlawful (suc k) i (Some e.direction) es) (cases_Bool (lawful e.direction)) (cases_Bool (follows last e.direction))
  where
    go :
        (places_verdict (suc k) (Some e.direction) es ≡ Some (refusal 3 i 0 0) → (j : ℕ) × (i ≡ suc k + j) × Unlawful (Some e.direction) es j)
        → (lawful e.direction ≡ true) ⊎ (lawful e.direction ≡ false) → (follows last e.direction ≡ true) ⊎ (follows last e.direction ≡ false)
        → (j : ℕ) × (i ≡ k + j) × Unlawful last (e ∷ es) j
    go later (inr a) b =
        let z : k ≡ i = ap place_told (sym (unlawful_here k last e es a) ∙ v) in
        (0, omega arith, record { inside = omega arith; good = tt; unlawful = a })
    go later (inl a) (inr b) = absurd (let z : 4 ≡ 3 = ap number_told (sym (disorder_here k last e es a b) ∙ v) in omega arith)
    go later (inl a) (inl b) =
        let w = later (sym (passes k last e es a b) ∙ v) in
        let n = w.1 in
        let l : suc w.0 < suc (length es) = let l = w.2.inside in omega arith in
        (suc w.0, omega arith, record { inside = l; good = (a, b, w.2.good); unlawful = w.2.unlawful })

is_disorder : (k i : ℕ) (last : Option Direction) (es : List Record) → places_verdict k last es ≡ Some (refusal 4 i 0 0) → (j : ℕ) × (i ≡ k + j) × Disorder last es j
is_disorder k i last [] v = absurd (let z : 0 ≡ 4 = ap number_told v in omega arith)
is_disorder k i last (e ∷ es) v = go (is_disorder (suc k) i (Some e.direction) es) (cases_Bool (lawful e.direction)) (cases_Bool (follows last e.direction))
  where
    go :
        (places_verdict (suc k) (Some e.direction) es ≡ Some (refusal 4 i 0 0) → (j : ℕ) × (i ≡ suc k + j) × Disorder (Some e.direction) es j)
        → (lawful e.direction ≡ true) ⊎ (lawful e.direction ≡ false) → (follows last e.direction ≡ true) ⊎ (follows last e.direction ≡ false)
        → (j : ℕ) × (i ≡ k + j) × Disorder last (e ∷ es) j
    go later (inr a) b = absurd (let z : 3 ≡ 4 = ap number_told (sym (unlawful_here k last e es a) ∙ v) in omega arith)
    go later (inl a) (inr b) =
        let z : k ≡ i = ap place_told (sym (disorder_here k last e es a b) ∙ v) in
        (0, omega arith, record { inside = omega arith; good = tt; is_lawful = a; not_after = b })
    go later (inl a) (inl b) =
        let w = later (sym (passes k last e es a b) ∙ v) in
        let n = w.1 in
        let l : suc w.0 < suc (length es) = let l = w.2.inside in omega arith in
        (suc w.0, omega arith, record { inside = l; good = (a, b, w.2.good); is_lawful = w.2.is_lawful; not_after = w.2.not_after })

-- By numbers of places --------------------------------------------------------------------------------------------

good_each : (last : Option Direction) (es : List Record) (n : ℕ) → Good last es n → (j : ℕ) → j < n → lawful (direction_at es j) ≡ true
good_each last es zero g j l = absurd (omega arith)
good_each last [] (suc n) g j l = absurd g
good_each last (e ∷ es) (suc n) g zero l = g.0
good_each last (e ∷ es) (suc n) g (suc j) l = good_each (Some e.direction) es n g.2 j (omega arith)

good_ordered : (last : Option Direction) (es : List Record) (n : ℕ) → Good last es n → (j : ℕ) → suc j < n → before (direction_at es j) (direction_at es (suc j)) ≡ true
good_ordered last es zero g j l = absurd (omega arith)
good_ordered last [] (suc n) g j l = absurd g
good_ordered last (e ∷ es) (suc zero) g zero l = absurd (omega arith)
good_ordered last (e ∷ []) (suc (suc n)) g zero l = absurd g.2
good_ordered last (e ∷ a ∷ es) (suc (suc n)) g zero l = g.2.1
good_ordered last (e ∷ es) (suc n) g (suc j) l = good_ordered (Some e.direction) es n g.2 j (omega arith)

good_from :
    (last : Option Direction) (es : List Record) (n : ℕ) → n ≤ length es → (0 < n → follows last (direction_at es 0) ≡ true)
    → GoodBefore es n → Good last es n
good_from last es zero l first g = tt
good_from last [] (suc n) l first g = absurd (omega arith)
good_from last (e ∷ es) (suc n) l first g = (
  g.each 0 (omega arith),
  first (omega arith),
  good_from (Some e.direction) es n (omega arith) (λ some. g.ordered 0 (omega arith))
      (record { each = λ j k. g.each (suc j) (omega arith); ordered = λ j k. g.ordered (suc j) (omega arith) }),
)

good_before : (es : List Record) (n : ℕ) → Good None es n → GoodBefore es n
good_before es n g = record { each = good_each None es n g; ordered = good_ordered None es n g }

last_at : (last : Option Direction) (es : List Record) (j : ℕ) → j < length es → last_of last es (suc j) ≡ Some (direction_at es j)
last_at last [] j l = absurd (omega arith)
last_at last (e ∷ es) zero l = refl
last_at last (e ∷ es) (suc j) l = last_at (Some e.direction) es j (omega arith)

unlawful_to : (es : List Record) (i : ℕ) → Unlawful None es i → FirstUnlawful es i
unlawful_to es i u = record { inside = u.inside; earlier = good_before es i u.good; unlawful = u.unlawful }

unlawful_from : (es : List Record) (i : ℕ) → FirstUnlawful es i → Unlawful None es i
unlawful_from es i u =
    record { inside = u.inside; good = good_from None es i (let l = u.inside in omega arith) (λ some. refl) u.earlier; unlawful = u.unlawful }

disorder_to : (es : List Record) (i : ℕ) → Disorder None es i → FirstDisorder es i
disorder_to es zero u = absurd (true≢false u.not_after)
disorder_to es (suc i) u =
    let e : follows (last_of None es (suc i)) (direction_at es (suc i)) ≡ before (direction_at es i) (direction_at es (suc i)) = ap (λ x. follows x (direction_at es (suc i))) (last_at None es i (let l = u.inside in omega arith)) in
    let k : suc i - 1 ≡ i = omega arith in
    record {
      inside = u.inside;
      earlier = good_before es (suc i) u.good;
      is_lawful = u.is_lawful;
      not_first = omega arith;
      not_after = subst (λ n. before (direction_at es n) (direction_at es (suc i)) ≡ false) (sym k) (sym e ∙ u.not_after);
    }

disorder_from : (es : List Record) (i : ℕ) → FirstDisorder es i → Disorder None es i
disorder_from es zero u = absurd (let l = u.not_first in omega arith)
disorder_from es (suc i) u =
    let e : follows (last_of None es (suc i)) (direction_at es (suc i)) ≡ before (direction_at es i) (direction_at es (suc i)) = ap (λ x. follows x (direction_at es (suc i))) (last_at None es i (let l = u.inside in omega arith)) in
    let k : suc i - 1 ≡ i = omega arith in
    record {
      inside = u.inside;
      good = good_from None es (suc i) (let l = u.inside in omega arith) (λ some. refl) u.earlier;
      is_lawful = u.is_lawful;
      not_after = e ∙ subst (λ n. before (direction_at es n) (direction_at es (suc i)) ≡ false) k u.not_after;
    }

-- The shape -------------------------------------------------------------------------------------------------------

module _ (s : Shape) where
  sized : (side_ok s.P && side_ok s.Q) ≡ true → Sized s
  sized e = let p = and_parts _ _ e in record { columns = within most_side s.P p.0; rows = within most_side s.Q p.1 }

  is_sized : Sized s → (side_ok s.P && side_ok s.Q) ≡ true
  is_sized z = and_from _ _ (is_within most_side s.P z.columns) (is_within most_side s.Q z.rows)

  data Cases : Type 0 where
    not_sized : (¬ (Sized s)) → verdict s ≡ Some (refusal 1 0 0 0) → Cases
    not_counted : Sized s → (¬ (Counted s)) → verdict s ≡ Some (refusal 2 0 0 0) → Cases
    placed : Sized s → Counted s → verdict s ≡ places_verdict 0 None s.records → Cases

  cases : Cases
  unfolding verdict
  cases = go (cases_Bool (side_ok s.P && side_ok s.Q)) (cases_Bool (number_ok (length s.records)))
    where
      go :
          ((side_ok s.P && side_ok s.Q) ≡ true) ⊎ ((side_ok s.P && side_ok s.Q) ≡ false)
          → (number_ok (length s.records) ≡ true) ⊎ (number_ok (length s.records) ≡ false) → Cases
      go (inr a) b = not_sized (λ z. both_ways _ a (is_sized z)) (cond-false _ _ _ a)
      go (inl a) (inr b) = not_counted (sized a) (λ c. both_ways _ b (is_within most_places (length s.records) c)) (cond-true _ _ _ a ∙ cond-false _ _ _ b)
      go (inl a) (inl b) = placed (sized a) (within most_places (length s.records) b) (cond-true _ _ _ a ∙ cond-true _ _ _ b)

  -- a verdict of the places has number 3 or 4, or is none
  low : (k n : ℕ) (last : Option Direction) (es : List Record) → places_verdict k last es ≡ Some (refusal n 0 0 0) → 3 ≤ n
  low k n last [] v = absurd (let z : 0 ≡ 1 = ap seen v in omega arith)
    where
      seen : Option Refusal → ℕ
      seen None = 0
      seen (Some r) = 1
  low k n last (e ∷ es) v = go (low (suc k) n (Some e.direction) es) (cases_Bool (lawful e.direction)) (cases_Bool (follows last e.direction))
    where
      go : (places_verdict (suc k) (Some e.direction) es ≡ Some (refusal n 0 0 0) → 3 ≤ n) → (lawful e.direction ≡ true) ⊎ (lawful e.direction ≡ false) → (follows last e.direction ≡ true) ⊎ (follows last e.direction ≡ false) → 3 ≤ n
      go later (inr a) b = let z : 3 ≡ n = ap number_told (sym (unlawful_here k last e es a) ∙ v) in omega arith
      go later (inl a) (inr b) = let z : 4 ≡ n = ap number_told (sym (disorder_here k last e es a b) ∙ v) in omega arith
      go later (inl a) (inl b) = later (sym (passes k last e es a b) ∙ v)

  apart : (n m i : ℕ) → verdict s ≡ Some (refusal n 0 0 0) → verdict s ≡ Some (refusal m i 0 0) → n ≡ m
  apart n m i a b = ap number_told (sym a ∙ b)

  size_wrong : verdict s ≡ Some (refusal 1 0 0 0) → ¬ (Sized s)
  size_wrong v = go cases
    where
      go : Cases → ¬ (Sized s)
      go (not_sized n e) = n
      go (not_counted z n e) = absurd (let q = apart 2 1 0 e v in omega arith)
      go (placed z c e) = absurd (let q = low 0 1 None s.records (sym e ∙ v) in omega arith)

  wrong_size : ¬ (Sized s) → verdict s ≡ Some (refusal 1 0 0 0)
  wrong_size n = go cases
    where
      go : Cases → verdict s ≡ Some (refusal 1 0 0 0)
      go (not_sized m e) = e
      go (not_counted z m e) = absurd (n z)
      go (placed z c e) = absurd (n z)

  count_wrong : verdict s ≡ Some (refusal 2 0 0 0) → Sized s × (¬ (Counted s))
  count_wrong v = go cases
    where
      go : Cases → Sized s × (¬ (Counted s))
      go (not_sized n e) = absurd (let q = apart 1 2 0 e v in omega arith)
      go (not_counted z n e) = (z, n)
      go (placed z c e) = absurd (let q = low 0 2 None s.records (sym e ∙ v) in omega arith)

  wrong_count : Sized s × (¬ (Counted s)) → verdict s ≡ Some (refusal 2 0 0 0)
  wrong_count w = go cases
    where
      go : Cases → verdict s ≡ Some (refusal 2 0 0 0)
      go (not_sized n e) = absurd (n w.0)
      go (not_counted z n e) = e
      go (placed z c e) = absurd (w.1 c)

  -- a verdict with number 3 or more is one of the places
  of_places : (n i : ℕ) → 3 ≤ n → verdict s ≡ Some (refusal n i 0 0) → Sized s × Counted s × (places_verdict 0 None s.records ≡ Some (refusal n i 0 0))
  of_places n i l v = go cases
    where
      go : Cases → Sized s × Counted s × (places_verdict 0 None s.records ≡ Some (refusal n i 0 0))
      go (not_sized m e) = absurd (let q = apart 1 n i e v in omega arith)
      go (not_counted z m e) = absurd (let q = apart 2 n i e v in omega arith)
      go (placed z c e) = (z, c, sym e ∙ v)

  by_places : (r : Refusal) → Sized s → Counted s → places_verdict 0 None s.records ≡ Some r → verdict s ≡ Some r
  by_places r z c v = go cases
    where
      go : Cases → verdict s ≡ Some r
      go (not_sized n e) = absurd (n z)
      go (not_counted y n e) = absurd (n c)
      go (placed y d e) = e ∙ v

  unlawful_told : (i : ℕ) → verdict s ≡ Some (refusal 3 i 0 0) → Sized s × Counted s × FirstUnlawful s.records i
  unlawful_told i v =
      let p = of_places 3 i (omega arith) v in
      let w = is_unlawful 0 i None s.records p.2 in
      (p.0, p.1, subst (FirstUnlawful s.records) (sym (w.1 ∙ zero-add w.0)) (unlawful_to s.records w.0 w.2))

  tells_unlawful_at : (i : ℕ) → Sized s × Counted s × FirstUnlawful s.records i → verdict s ≡ Some (refusal 3 i 0 0)
  tells_unlawful_at i w =
      by_places (refusal 3 i 0 0) w.0 w.1 (tells_unlawful 0 None s.records i (unlawful_from s.records i w.2) ∙ ap (λ n. Some (refusal 3 n 0 0)) (zero-add i))

  disorder_told : (i : ℕ) → verdict s ≡ Some (refusal 4 i 0 0) → Sized s × Counted s × FirstDisorder s.records i
  disorder_told i v =
      let p = of_places 4 i (omega arith) v in
      let w = is_disorder 0 i None s.records p.2 in
      (p.0, p.1, subst (FirstDisorder s.records) (sym (w.1 ∙ zero-add w.0)) (disorder_to s.records w.0 w.2))

  tells_disorder_at : (i : ℕ) → Sized s × Counted s × FirstDisorder s.records i → verdict s ≡ Some (refusal 4 i 0 0)
  tells_disorder_at i w =
      by_places (refusal 4 i 0 0) w.0 w.1 (tells_disorder 0 None s.records i (disorder_from s.records i w.2) ∙ ap (λ n. Some (refusal 4 n 0 0)) (zero-add i))

  first_wrong : FirstWrong s (verdict s)
  first_wrong = record {
    size = (size_wrong, wrong_size);
    count = (count_wrong, wrong_count);
    unlawful = λ i. (unlawful_told i, tells_unlawful_at i);
    disorder = λ i. (disorder_told i, tells_disorder_at i);
  }

-- A plan, or the first refusal, tells just that.
pub tells_first : (s : Shape) (r : Result Plan Fault) → Plans s r → FirstWrong s (refused r)
tells_first s (Ok plan) p = subst (FirstWrong s) p.0 (first_wrong s)
tells_first s (Err e) p = subst (FirstWrong s) p (first_wrong s)
