-- Cells written one after another.
use Rattle.std.proofs.Common.{◌≡◌, ℕ, zero, suc, ◌+◌, ◌<◌, ◌≤◌, List, length, get_or, set, sym, refl, ap, ◌∙◌, ⊎_elim, add-zero, add-suc, add-one, arith}
use Rattle.std.proofs.lemmas.List.{get_or-set_same, get_or-set_other, length-set}
use Rattle.std.proofs.lemmas.Bool.{cases_eq}
use Rattle.peeling.specs.Steps.{filled}
use Rattle.law.specs.Steps.{written}

module _ {X : Type 0} (from : ℕ) where
  pub written_none : (f : ℕ → X) (xs : List X) → xs ≡ written from 0 f xs
  unfolding written
  written_none f xs = refl

  pub written_more : (n : ℕ) (f : ℕ → X) (xs ys : List X) (v : X) → ys ≡ written from n f xs → v ≡ f n → set ys (from + n) v ≡ written from (n + 1) f xs
  unfolding written
  written_more n f xs ys v e here = (λ i. set (e i) (from + n) (here i)) ∙ ap (λ k. written from k f xs) (sym (add-one n))

  pub length-written : (n : ℕ) (f : ℕ → X) (xs : List X) → length (written from n f xs) ≡ length xs
  unfolding written
  length-written zero f xs = refl
  length-written (suc n) f xs = length-set (written from n f xs) (from + n) (f n) ∙ length-written n f xs

  pub get_or-written : (n : ℕ) (f : ℕ → X) (xs : List X) (d : X) (i : ℕ) → from + n ≤ length xs → i < n → get_or (written from n f xs) (from + i) d ≡ f i
  unfolding written
  get_or-written zero f xs d i m l = absurd (omega arith)
  get_or-written (suc n) f xs d i m l = ⊎_elim
      (λ (e : i ≡ n).
      ap (λ j. get_or (set (written from n f xs) (from + n) (f n)) (from + j) d) e
      ∙ get_or-set_same (written from n f xs) (from + n) (f n) d (let k = length-written n f xs in omega arith) ∙ ap f (sym e))
      (λ (e : i ≡ n → ⊥).
      get_or-set_other (written from n f xs) (from + n) (from + i) (f n) d (λ same. e (omega arith))
      ∙ get_or-written n f xs d i (omega arith) (omega arith))
      (cases_eq i n)

  -- after the cells before them
  pub filled_on :
      (n : ℕ) (g f : ℕ → X) (xs : List X) → ((b : ℕ) → b < n → g b ≡ f (from + b)) → written from n g (filled from f xs) ≡ filled (from + n) f xs
  unfolding written filled
  filled_on zero g f xs same = ap (λ k. filled k f xs) (sym (add-zero from))
  filled_on (suc n) g f xs same =
      (λ j. set (filled_on n g f xs (λ b l. same b (omega arith)) j) (from + n) (same n (omega arith) j))
      ∙ ap (λ k. filled k f xs) (sym (add-suc from n))

pub filled_none : {X : Type 0} (f : ℕ → X) (xs : List X) → xs ≡ filled 0 f xs
unfolding filled
filled_none f xs = refl
