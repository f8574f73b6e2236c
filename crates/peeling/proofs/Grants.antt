-- No bin waits, is out or was settled twice, and every bin with one missing pixel waits or is out.
use Rattle.std.proofs.Common.{◌≡◌, ℕ, ◌+◌, ◌-◌, ◌<◌, ◌≤◌, true, false, not, ◌&&◌, ◌||◌, eqb, ◌≢◌, [], ◌∷◌, sym, refl, ap, ◌∙◌, subst, ⊎_elim, arith}
use Rattle.std.proofs.lemmas.Bool.{cases_eq, cases_lt, eqb-true, eq-eqb, ne_eqb, and_right, or_right}
use Rattle.peeling.specs.Counting.{one_if, tally}
use Rattle.peeling.specs.Incidence.{Incidence}
use Rattle.peeling.specs.History.{History, took, settled, gave_back, refused, missing, missing_in, waits, out, settles}
use Rattle.peeling.proofs.Bools.{and_true, or_false}
use Rattle.peeling.proofs.Counts.{one_if_le, one_if_yes, tally_zero}
use Rattle.peeling.proofs.Histories.{ended, same_bin, other_bin, tally_one_more, settled_waits}

pub record Grants (I : Incidence) (h : History) : Type 0 where
  pub once : (b : ℕ) → b < I.bins → one_if (waits I h b) + out h b + ended h b ≤ 1
  pub low : (b : ℕ) → b < I.bins → 1 ≤ one_if (waits I h b) + out h b + ended h b → missing_in I h b ≤ 1
  pub high : (b : ℕ) → b < I.bins → missing_in I h b ≡ 1 → 1 ≤ one_if (waits I h b) + out h b
  pub within : (b : ℕ) → I.bins ≤ b → out h b ≡ 0
  pub all : settles h ≡ tally I.bins (ended h)

module _ (I : Incidence) where
  -- a grant that is out is one of a bin
  pub out_inside : (h : History) → Grants I h → (a : ℕ) → 0 < out h a → a < I.bins
  out_inside h g a o = ⊎_elim
      (λ (l : a < I.bins). l)
      (λ (l : I.bins ≤ a). let z = g.within a l in absurd (omega arith))
      (cases_lt a I.bins)

  pub grants_none : Grants I []
  unfolding waits out ended settles
  grants_none = record {
    once = λ b l. let k = one_if_le (eqb (missing_in I [] b) 1) in omega arith;
    low = λ b l some. let e : missing_in I [] b ≡ 1 = eqb-true _ 1 (one_if_yes (eqb (missing_in I [] b) 1) (omega arith)) in omega arith;
    high = λ b l e. let k : one_if (eqb (missing_in I [] b) 1) ≡ 1 = ap one_if (eq-eqb _ 1 e) in omega arith;
    within = λ b l. refl;
    all = sym (tally_zero I.bins (ended []) (λ b l. refl));
  }

  -- a call that leaves what is missing, and each bin's number of waits and grants
  grants_moved : (h k : History) → Grants I h →
      ((b : ℕ) → missing_in I k b ≡ missing_in I h b) →
      ((b : ℕ) → b < I.bins → one_if (waits I k b) + out k b ≡ one_if (waits I h b) + out h b) →
      ((b : ℕ) → ended k b ≡ ended h b) →
      ((b : ℕ) → I.bins ≤ b → out k b ≡ 0) →
      settles k ≡ tally I.bins (ended k) →
      Grants I k
  grants_moved h k g same moved over within all = record {
    once = λ b l. let o = g.once b l in let m = moved b l in let e = over b in omega arith;
    low = λ b l some. let m = moved b l in let e = over b in let s = same b in let o = g.low b l (omega arith) in omega arith;
    high = λ b l one. let m = moved b l in let s = same b in let o = g.high b l (omega arith) in omega arith;
    within = within;
    all = all;
  }

  pub grants_took : (h : History) (a : ℕ) → Grants I h → a < I.bins → waits I h a ≡ true → Grants I (took a ∷ h)
  unfolding missing waits out ended settles
  grants_took h a g l on = grants_moved h (took a ∷ h) g (λ b. refl) (λ b k. moved b) (λ b. refl)
      (λ b k. let z = g.within b k in let o = other_bin a b (omega arith) in omega arith)
      g.all
    where
      moved : (b : ℕ) → one_if (waits I (took a ∷ h) b) + (out h b + one_if (eqb a b)) ≡ one_if (waits I h b) + out h b
      moved b = ⊎_elim
          (λ (e : a ≡ b).
          let s = same_bin a b e in
          let w : one_if (waits I h b) ≡ 1 = ap one_if (ap (waits I h) (sym e) ∙ on) in
          let z : one_if (waits I h b && not (eqb a b)) ≡ 0 = ap (λ x. one_if (waits I h b && not x)) (eq-eqb a b e) ∙ ap one_if (and_right (waits I h b) false refl) in
          omega arith)
          (λ (d : a ≡ b → ⊥).
          let s = other_bin a b d in
          let z : one_if (waits I h b && not (eqb a b)) ≡ one_if (waits I h b) = ap (λ x. one_if (waits I h b && not x)) (ne_eqb a b d) ∙ ap one_if (and_true (waits I h b)) in
          omega arith)
          (cases_eq a b)

  pub grants_gave : (h : History) (a : ℕ) → Grants I h → 0 < out h a → Grants I (gave_back a ∷ h)
  unfolding missing waits out ended settles
  grants_gave h a g some = grants_moved h (gave_back a ∷ h) g (λ b. refl) moved (λ b. refl)
      (λ b k. let z = g.within b k in omega arith)
      g.all
    where
      moved : (b : ℕ) → b < I.bins → one_if (waits I (gave_back a ∷ h) b) + (out h b - one_if (eqb a b)) ≡ one_if (waits I h b) + out h b
      moved b l = ⊎_elim
          (λ (e : a ≡ b).
          let s = same_bin a b e in
          let o = g.once b l in
          let n : 0 < out h b = subst (λ x. 0 < out h x) e some in
          let z : one_if (waits I h b || eqb a b) ≡ 1 = ap (λ x. one_if (waits I h b || x)) (eq-eqb a b e) ∙ ap one_if (or_right (waits I h b) true refl) in
          omega arith)
          (λ (d : a ≡ b → ⊥).
          let s = other_bin a b d in
          let z : one_if (waits I h b || eqb a b) ≡ one_if (waits I h b) = ap (λ x. one_if (waits I h b || x)) (ne_eqb a b d) ∙ ap one_if (or_false (waits I h b)) in
          omega arith)
          (cases_eq a b)

  pub grants_refused : (h : History) → Grants I h → Grants I (refused ∷ h)
  unfolding missing waits out ended settles
  grants_refused h g = grants_moved h (refused ∷ h) g (λ b. refl) (λ b k. refl) (λ b. refl) g.within g.all

  pub grants_settled : (h : History) (a : ℕ) → Grants I h → 0 < out h a →
      (missing_in I h a ≡ 1 → missing_in I (settled a ∷ h) a ≡ 0) →
      ((b : ℕ) → missing_in I (settled a ∷ h) b ≤ missing_in I h b) → Grants I (settled a ∷ h)
  unfolding out ended settles
  grants_settled h a g some gone fewer = record {
    once = λ b l. ⊎_elim
        (λ new. let z = fresh b l new.0 new.1 in let w : one_if (waits I (settled a ∷ h) b) ≡ 1 = ap one_if new.2 in let s = spent b in omega arith)
        (λ old. let w : one_if (waits I (settled a ∷ h) b) ≡ one_if (waits I h b) = ap one_if old.1 in let s = spent b in let o = g.once b l in omega arith)
        (settled_waits I h a b);
    low = λ b l k. ⊎_elim
        (λ new. let e = new.1 in omega arith)
        (λ old. let w : one_if (waits I (settled a ∷ h) b) ≡ one_if (waits I h b) = ap one_if old.1 in let s = spent b in let o = g.low b l (omega arith) in let f = fewer b in omega arith)
        (settled_waits I h a b);
    high = λ b l one. ⊎_elim
        (λ new. let w : one_if (waits I (settled a ∷ h) b) ≡ 1 = ap one_if new.2 in omega arith)
        (λ old.
        let w : one_if (waits I (settled a ∷ h) b) ≡ one_if (waits I h b) = ap one_if old.1 in
        let o = g.high b l (old.0 one) in
        let k = kept b (λ e. let z = gone (subst (λ x. missing_in I h x ≡ 1) (sym e) (old.0 one)) in let y : missing_in I (settled a ∷ h) a ≡ 1 = subst (λ x. missing_in I (settled a ∷ h) x ≡ 1) (sym e) one in omega arith) in
        omega arith)
        (settled_waits I h a b);
    within = outside;
    all = tallied;
  }
    where
      -- the grant that is settled is no longer out
      spent : (b : ℕ) → out (settled a ∷ h) b + ended (settled a ∷ h) b ≡ out h b + ended h b
      spent b = ⊎_elim
          (λ (e : a ≡ b). let s = same_bin a b e in let n : 0 < out h b = subst (λ x. 0 < out h x) e some in omega arith)
          (λ (d : a ≡ b → ⊥). let s = other_bin a b d in omega arith)
          (cases_eq a b)

      kept : (b : ℕ) → (a ≡ b → ⊥) → out (settled a ∷ h) b ≡ out h b
      kept b d = let s = other_bin a b d in omega arith

      fresh : (b : ℕ) → b < I.bins → (missing_in I h b ≢ 1) → missing_in I (settled a ∷ h) b ≡ 1 → out h b + ended h b ≡ 0
      fresh b l ne one = ⊎_elim
          (λ (k : 0 < one_if (waits I h b) + out h b + ended h b). let lo = g.low b l k in let f = fewer b in absurd (omega arith))
          (λ (k : one_if (waits I h b) + out h b + ended h b ≤ 0). omega arith)
          (cases_lt 0 (one_if (waits I h b) + out h b + ended h b))

      outside : (b : ℕ) → I.bins ≤ b → out (settled a ∷ h) b ≡ 0
      outside b l = let z = g.within b l in omega arith

      tallied : settles (settled a ∷ h) ≡ tally I.bins (ended (settled a ∷ h))
      tallied =
          let e = g.all in
          let k : tally I.bins (ended (settled a ∷ h)) ≡ tally I.bins (ended h) + 1 =
          tally_one_more I.bins a (ended h) (ended (settled a ∷ h)) (out_inside h g a some) (λ b. refl) in
          omega arith
