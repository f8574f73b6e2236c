-- What one more call makes of the notions of a history.
use Rattle.std.proofs.Common.{◌≡◌, ℕ, ◌+◌, ◌<◌, Bool, true, false, not, ◌&&◌, ◌||◌, eqb, ◌≢◌, ◌⊎◌, [], ◌∷◌, sym, refl, ap, ◌∙◌, inl, inr, ⊎_elim, arith}
use Rattle.std.proofs.lemmas.Bool.{cases_Bool, eqb-true, eqb-false, eq-eqb, ne_eqb, and_parts, and_from, and_right, or_right}
use Rattle.peeling.specs.Counting.{one_if, tally, number}
use Rattle.peeling.specs.Incidence.{Incidence}
use Rattle.peeling.specs.History.{History, took, settled, gave_back, refused, missing, missing_in, waits}
use Rattle.peeling.proofs.Bools.{and_true, or_false}
use Rattle.peeling.proofs.Counts.{tally_change, number_change, number_alone}

-- how many settles were served on bin b
unfoldable pub ended : History → ℕ → ℕ
ended [] b = 0
ended (took a ∷ h) b = ended h b
ended (settled a ∷ h) b = ended h b + one_if (eqb a b)
ended (gave_back a ∷ h) b = ended h b
ended (refused ∷ h) b = ended h b

pub same_bin : (a b : ℕ) → a ≡ b → one_if (eqb a b) ≡ 1
same_bin a b e = ap one_if (eq-eqb a b e)

pub other_bin : (a b : ℕ) → (a ≡ b → ⊥) → one_if (eqb a b) ≡ 0
other_bin a b d = ap one_if (ne_eqb a b d)

-- a tally of one more at a
pub tally_one_more : (T a : ℕ) (f g : ℕ → ℕ) → a < T → ((b : ℕ) → g b ≡ f b + one_if (eqb a b)) → tally T g ≡ tally T f + 1
tally_one_more T a f g l step =
    let e = tally_change T g f a l (λ b k d. let s = step b in let z = other_bin a b (λ x. d (sym x)) in omega arith) in
    let s = step a in
    let o = same_bin a a refl in
    omega arith

module _ (I : Incidence) where
  -- what a settle leaves missing
  settled_missing : (h : History) (a c : ℕ) → missing I (settled a ∷ h) c ≡ (missing I h c && not (I.lies c a && eqb (missing_in I h a) 1))
  unfolding missing
  settled_missing h a c = refl

  -- A settle on a bin in which not exactly one pixel is missing finds none.
  pub idle_missing : (h : History) (a : ℕ) → (missing_in I h a ≡ 1 → ⊥) → (c : ℕ) → missing I (settled a ∷ h) c ≡ missing I h c
  idle_missing h a idle c = settled_missing h a c
      ∙ ap (λ x. missing I h c && not (I.lies c a && x)) (ne_eqb _ 1 idle)
      ∙ ap (λ x. missing I h c && not x) (and_right (I.lies c a) false refl)
      ∙ and_true (missing I h c)

  -- Pixel c alone is missing in bin a: after a settle on a it is found, and the others are as they were.
  pub record Solo (h : History) (a c : ℕ) : Type 0 where
    pub inside : c < I.pixels
    pub lies_in : I.lies c a ≡ true
    pub was : missing I h c ≡ true
    pub now : missing I (settled a ∷ h) c ≡ false
    pub same : (d : ℕ) → d < I.pixels → (d ≡ c → ⊥) → missing I (settled a ∷ h) d ≡ missing I h d
    pub others : (d : ℕ) → d < I.pixels → (d ≡ c → ⊥) → I.lies d a ≡ true → missing I h d ≡ false

  pub solo : (h : History) (a c : ℕ) → missing_in I h a ≡ 1 → c < I.pixels → (I.lies c a && missing I h c) ≡ true → Solo h a c
  solo h a c one l lone = record {
    inside = l;
    lies_in = parts.0;
    was = parts.1;
    now = settled_missing h a c ∙ ap (λ x. missing I h c && not x) (and_from _ _ parts.0 test) ∙ and_right (missing I h c) false refl;
    same = λ d k ne. settled_missing h a d ∙ ap (λ x. missing I h d && not (I.lies d a && x)) test ∙ rest d k ne (missing I h d) refl;
    others = λ d k ne on. ⊎_elim
        (λ (e : missing I h d ≡ true). absurd (ne (alone d k (and_from _ _ on e))))
        (λ (e : missing I h d ≡ false). e)
        (cases_Bool (missing I h d));
  }
    where
      parts : (I.lies c a ≡ true) × (missing I h c ≡ true)
      parts = and_parts _ _ lone

      test : eqb (missing_in I h a) 1 ≡ true
      test = eq-eqb _ 1 one

      alone : (d : ℕ) → d < I.pixels → (I.lies d a && missing I h d) ≡ true → d ≡ c
      alone d k e = number_alone I.pixels (λ i. I.lies i a && missing I h i) (omega arith) d c k l e lone

      rest : (d : ℕ) → d < I.pixels → (d ≡ c → ⊥) → (m : Bool) → missing I h d ≡ m → (m && not (I.lies d a && true)) ≡ m
      rest d k ne true e = go (I.lies d a) refl
        where
          go : (t : Bool) → I.lies d a ≡ t → not (t && true) ≡ true
          go true f = absurd (ne (alone d k (and_from _ _ f e)))
          go false f = refl
      rest d k ne false e = refl

  module _ (h : History) (a c : ℕ) (s : Solo h a c) where
    -- the bins in which it lies have one missing pixel less
    pub solo_bin : (b : ℕ) → missing_in I (settled a ∷ h) b + one_if (I.lies c b) ≡ missing_in I h b
    solo_bin b =
        let change = number_change I.pixels (λ d. I.lies d b && missing I (settled a ∷ h) d) (λ d. I.lies d b && missing I h d) c s.inside
        (λ d k ne. ap (λ x. I.lies d b && x) (s.same d k ne)) in
        let before : one_if (I.lies c b && missing I h c) ≡ one_if (I.lies c b) = ap one_if (ap (λ x. I.lies c b && x) s.was ∙ and_true (I.lies c b)) in
        let after : one_if (I.lies c b && missing I (settled a ∷ h) c) ≡ 0 = ap one_if (and_right (I.lies c b) _ s.now) in
        omega arith

    pub solo_left : number I.pixels (missing I (settled a ∷ h)) + 1 ≡ number I.pixels (missing I h)
    solo_left =
        let change = number_change I.pixels (missing I (settled a ∷ h)) (missing I h) c s.inside (λ d k ne. s.same d k ne) in
        let before : one_if (missing I h c) ≡ 1 = ap one_if s.was in
        let after : one_if (missing I (settled a ∷ h) c) ≡ 0 = ap one_if s.now in
        omega arith

  -- A bin comes to wait by a settle, or waits as before.
  pub settled_waits : (h : History) (a b : ℕ) →
      ((missing_in I h b ≢ 1) × (missing_in I (settled a ∷ h) b ≡ 1) × (waits I (settled a ∷ h) b ≡ true))
      ⊎ ((missing_in I (settled a ∷ h) b ≡ 1 → missing_in I h b ≡ 1) × (waits I (settled a ∷ h) b ≡ waits I h b))
  unfolding waits
  settled_waits h a b = go (eqb (missing_in I h b) 1) refl (eqb (missing_in I (settled a ∷ h) b) 1) refl
    where
      go : (x : Bool) → eqb (missing_in I h b) 1 ≡ x → (y : Bool) → eqb (missing_in I (settled a ∷ h) b) 1 ≡ y →
          ((missing_in I h b ≢ 1) × (missing_in I (settled a ∷ h) b ≡ 1) × ((waits I h b || (not x && y)) ≡ true))
          ⊎ ((missing_in I (settled a ∷ h) b ≡ 1 → missing_in I h b ≡ 1) × ((waits I h b || (not x && y)) ≡ waits I h b))
      go true e y f = inr ((λ k. eqb-true _ _ e), or_false (waits I h b))
      go false e true f = inl (eqb-false _ _ e, eqb-true _ _ f, or_right (waits I h b) true refl)
      go false e false f = inr ((λ k. absurd (eqb-false _ _ f k)), or_false (waits I h b))
